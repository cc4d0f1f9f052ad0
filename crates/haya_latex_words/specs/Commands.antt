-- What commands of LaTeX mean that are words.
use Rattle.std.specs.Prelude.{ℕ, List, [], ◌∷◌, Option, None, Some, option_map, unwrap_or, if◌then◌else◌, codes}
use Rattle.std.specs.List.{list_any}
use Rattle.std.specs.Option.{option_or}
use Rattle.std.specs.Map.{lookup}
use Rattle.std.specs.Str.{bytes_eq}
use Rattle.haya_latex_words.specs.declared.accent.Accent.{Accent}
use Rattle.haya_latex_words.specs.declared.accent.Accent.TheVariants.{Breve, Caron, DoubleAcute, Ring, Cedilla, Ogonek, DotBelow, MacronBelow, Tie}

-- what a command is: a text; a text of which white behind it is no part; an accent; a look of what
-- follows; nothing, with so many arguments; signs around what follows; a formula; or not known
pub data Meaning : Type 0 where
  sign : List ℕ → Meaning
  point : List ℕ → Meaning
  accent : Accent → Meaning
  look : Meaning
  left_out : ℕ → Meaning
  around : ℕ → ℕ → Meaning
  formula : Meaning
  unknown : Meaning

-- commands that stand for a character
abbrev pub signs : List (List ℕ × ℕ)
signs =
    (codes "ss", 223) ∷ (codes "SS", 7838) ∷ (codes "ae", 230) ∷ (codes "AE", 198)
    ∷ (codes "oe", 339) ∷ (codes "OE", 338) ∷ (codes "aa", 229) ∷ (codes "AA", 197)
    ∷ (codes "o", 248) ∷ (codes "O", 216) ∷ (codes "l", 322) ∷ (codes "L", 321)
    ∷ (codes "i", 305) ∷ (codes "imath", 305) ∷ (codes "j", 567) ∷ (codes "jmath", 567)
    ∷ (codes "dh", 240) ∷ (codes "DH", 208) ∷ (codes "th", 254) ∷ (codes "TH", 222)
    ∷ (codes "dj", 273) ∷ (codes "DJ", 272) ∷ (codes "ng", 331) ∷ (codes "NG", 330)
    ∷ (codes "ij", 307) ∷ (codes "IJ", 306) ∷ (codes "S", 167) ∷ (codes "textsection", 167)
    ∷ (codes "P", 182) ∷ (codes "textparagraph", 182) ∷ (codes "copyright", 169)
    ∷ (codes "textcopyright", 169) ∷ (codes "textregistered", 174)
    ∷ (codes "texttrademark", 8482) ∷ (codes "pounds", 163) ∷ (codes "textsterling", 163)
    ∷ (codes "texteuro", 8364) ∷ (codes "euro", 8364) ∷ (codes "EUR", 8364)
    ∷ (codes "textyen", 165) ∷ (codes "textcent", 162) ∷ (codes "dag", 8224)
    ∷ (codes "textdagger", 8224) ∷ (codes "ddag", 8225) ∷ (codes "textdaggerdbl", 8225)
    ∷ (codes "ldots", 8230) ∷ (codes "dots", 8230) ∷ (codes "textellipsis", 8230)
    ∷ (codes "textendash", 8211) ∷ (codes "endash", 8211) ∷ (codes "textemdash", 8212)
    ∷ (codes "emdash", 8212) ∷ (codes "Dash", 8212) ∷ (codes "backslash", 92)
    ∷ (codes "textbackslash", 92) ∷ (codes "textquoteleft", 8216) ∷ (codes "lq", 8216)
    ∷ (codes "grq", 8216) ∷ (codes "textquoteright", 8217) ∷ (codes "rq", 8217)
    ∷ (codes "textquotedblleft", 8220) ∷ (codes "grqq", 8220)
    ∷ (codes "textquotedblright", 8221) ∷ (codes "quotedblbase", 8222) ∷ (codes "glqq", 8222)
    ∷ (codes "quotesinglbase", 8218) ∷ (codes "glq", 8218) ∷ (codes "textquotedbl", 34)
    ∷ (codes "textquotesingle", 39) ∷ (codes "flqq", 171) ∷ (codes "guillemotleft", 171)
    ∷ (codes "guillemetleft", 171) ∷ (codes "frqq", 187) ∷ (codes "guillemotright", 187)
    ∷ (codes "guillemetright", 187) ∷ (codes "guilsinglleft", 8249)
    ∷ (codes "guilsinglright", 8250) ∷ (codes "textasciitilde", 126)
    ∷ (codes "textasciicircum", 94) ∷ (codes "textasciigrave", 96)
    ∷ (codes "textasciiacute", 180) ∷ (codes "textasciidieresis", 168) ∷ (codes "textbar", 124)
    ∷ (codes "textless", 60) ∷ (codes "textgreater", 62) ∷ (codes "textunderscore", 95)
    ∷ (codes "textdollar", 36) ∷ (codes "textbraceleft", 123) ∷ (codes "lbrace", 123)
    ∷ (codes "textbraceright", 125) ∷ (codes "rbrace", 125) ∷ (codes "textbullet", 8226)
    ∷ (codes "textperiodcentered", 183) ∷ (codes "textdegree", 176) ∷ (codes "degree", 176)
    ∷ (codes "textmu", 181) ∷ (codes "textexclamdown", 161) ∷ (codes "textquestiondown", 191)
    ∷ (codes "textordfeminine", 170) ∷ (codes "textordmasculine", 186)
    ∷ (codes "texttimes", 215) ∷ (codes "textdiv", 247) ∷ (codes "textpm", 177)
    ∷ (codes "textonehalf", 189) ∷ (codes "textonequarter", 188)
    ∷ (codes "textthreequarters", 190) ∷ (codes "textonesuperior", 185)
    ∷ (codes "texttwosuperior", 178) ∷ (codes "textthreesuperior", 179)
    ∷ (codes "textnumero", 8470) ∷ (codes "slash", 47) ∷ (codes "space", 32)
    ∷ (codes "quad", 32) ∷ (codes "qquad", 32) ∷ (codes "newline", 32)
    ∷ (codes "linebreak", 32) ∷ (codes "par", 32) ∷ (codes "nobreakspace", 160)
    ∷ (codes "thinspace", 8201) ∷ (codes "textvisiblespace", 9251) ∷ (codes "hyphen", 45)
    ∷ (codes "nobreakhyphen", 8209) ∷ []

-- commands that stand for several, and marks between the parts of a reference
abbrev pub texts : List (List ℕ × Meaning)
texts =
    (codes "TeX", sign (codes "TeX")) ∷ (codes "LaTeX", sign (codes "LaTeX"))
    ∷ (codes "LaTeXe", sign (codes "LaTeX2ε")) ∷ (codes "BibTeX", sign (codes "BibTeX"))
    ∷ (codes "bibtex", sign (codes "BibTeX")) ∷ (codes "BibLaTeX", sign (codes "BibLaTeX"))
    ∷ (codes "XeTeX", sign (codes "XeTeX")) ∷ (codes "XeLaTeX", sign (codes "XeLaTeX"))
    ∷ (codes "LuaTeX", sign (codes "LuaTeX")) ∷ (codes "LuaLaTeX", sign (codes "LuaLaTeX"))
    ∷ (codes "pdfTeX", sign (codes "pdfTeX")) ∷ (codes "pdfLaTeX", sign (codes "pdfLaTeX"))
    ∷ (codes "ConTeXt", sign (codes "ConTeXt")) ∷ (codes "MF", sign (codes "METAFONT"))
    ∷ (codes "METAFONT", sign (codes "METAFONT")) ∷ (codes "MP", sign (codes "MetaPost"))
    ∷ (codes "METAPOST", sign (codes "METAPOST")) ∷ (codes "AmS", sign (codes "AMS"))
    ∷ (codes "adddot", point (codes ".")) ∷ (codes "addcomma", point (codes ","))
    ∷ (codes "addcolon", point (codes ":")) ∷ (codes "addsemicolon", point (codes ";"))
    ∷ (codes "addspace", point (codes " ")) ∷ (codes "addnbspace", point (160 ∷ []))
    ∷ (codes "addabbrvspace", point (160 ∷ [])) ∷ (codes "addlowpenspace", point (codes " "))
    ∷ (codes "adddotspace", point (codes ". ")) ∷ (codes "addslash", point (codes "/"))
    ∷ (codes "addhyphen", point (codes "-")) ∷ (codes "isdot", point ([]))
    ∷ (codes "nopunct", point ([])) ∷ (codes "unspace", point ([])) ∷ []

-- commands that say how what follows looks
abbrev pub looks : List (List ℕ)
looks =
    codes "acro" ∷ codes "allowbreak" ∷ codes "autocap" ∷ codes "bf" ∷ codes "bfseries"
    ∷ codes "bibsstring" ∷ codes "bibstring" ∷ codes "boldmath" ∷ codes "break" ∷ codes "cyr"
    ∷ codes "displaystyle" ∷ codes "em" ∷ codes "emph" ∷ codes "fbox" ∷ codes "footnotesize"
    ∷ codes "frenchspacing" ∷ codes "hbox" ∷ codes "Huge" ∷ codes "huge" ∷ codes "ignorespaces"
    ∷ codes "it" ∷ codes "itshape" ∷ codes "LARGE" ∷ codes "Large" ∷ codes "large"
    ∷ codes "leavevmode" ∷ codes "lowercase" ∷ codes "lsstyle" ∷ codes "makebox"
    ∷ codes "MakeLowercase" ∷ codes "MakeTextUppercase" ∷ codes "MakeUppercase" ∷ codes "mbox"
    ∷ codes "mdseries" ∷ codes "mkbibacro" ∷ codes "mkbibbold" ∷ codes "mkbibemph"
    ∷ codes "mkbibitalic" ∷ codes "newblock" ∷ codes "nobreak" ∷ codes "NoCaseChange"
    ∷ codes "nocorr" ∷ codes "noindent" ∷ codes "nolinkurl" ∷ codes "normalfont"
    ∷ codes "normalsize" ∷ codes "null" ∷ codes "path" ∷ codes "protect" ∷ codes "raggedright"
    ∷ codes "relax" ∷ codes "rm" ∷ codes "rmfamily" ∷ codes "sc" ∷ codes "scriptsize"
    ∷ codes "scshape" ∷ codes "selectfont" ∷ codes "sf" ∷ codes "sffamily" ∷ codes "sl"
    ∷ codes "sloppy" ∷ codes "slshape" ∷ codes "small" ∷ codes "text" ∷ codes "textbf"
    ∷ codes "textit" ∷ codes "textls" ∷ codes "textmd" ∷ codes "textnormal" ∷ codes "textrm"
    ∷ codes "textsc" ∷ codes "textsf" ∷ codes "textsl" ∷ codes "textstyle"
    ∷ codes "textsubscript" ∷ codes "textsuperscript" ∷ codes "texttt" ∷ codes "textup"
    ∷ codes "tiny" ∷ codes "tt" ∷ codes "ttfamily" ∷ codes "uline" ∷ codes "underline"
    ∷ codes "unskip" ∷ codes "upn" ∷ codes "uppercase" ∷ codes "upshape" ∷ codes "url"
    ∷ codes "xspace" ∷ []

-- accents, commands that are left out with so many arguments, signs around a text, and a formula
abbrev pub others : List (List ℕ × Meaning)
others =
    (codes "u", accent Breve) ∷ (codes "v", accent Caron) ∷ (codes "H", accent DoubleAcute)
    ∷ (codes "r", accent Ring) ∷ (codes "c", accent Cedilla) ∷ (codes "k", accent Ogonek)
    ∷ (codes "d", accent DotBelow) ∷ (codes "b", accent MacronBelow) ∷ (codes "t", accent Tie)
    ∷ (codes "noopsort", left_out 1) ∷ (codes "nocite", left_out 1)
    ∷ (codes "cite", left_out 1) ∷ (codes "citet", left_out 1) ∷ (codes "citep", left_out 1)
    ∷ (codes "parencite", left_out 1) ∷ (codes "textcite", left_out 1)
    ∷ (codes "label", left_out 1) ∷ (codes "index", left_out 1) ∷ (codes "vspace", left_out 1)
    ∷ (codes "hspace", left_out 1) ∷ (codes "fontsize", left_out 2)
    ∷ (codes "begin", left_out 1) ∷ (codes "end", left_out 1) ∷ (codes "color", left_out 1)
    ∷ (codes "href", left_out 1) ∷ (codes "textcolor", left_out 1)
    ∷ (codes "foreignlanguage", left_out 1) ∷ (codes "selectlanguage", left_out 1)
    ∷ (codes "texorpdfstring", left_out 1) ∷ (codes "hskip", left_out 0)
    ∷ (codes "kern", left_out 0) ∷ (codes "SortNoop", left_out 1) ∷ (codes "noop", left_out 1)
    ∷ (codes "hyphenation", left_out 1) ∷ (codes "enquote", around 8220 8221)
    ∷ (codes "mkbibquote", around 8220 8221) ∷ (codes "mkbibparens", around 40 41)
    ∷ (codes "mkbibbrackets", around 91 93) ∷ (codes "ensuremath", formula) ∷ []

abbrev pub sign_in : List (List ℕ × ℕ) → List ℕ → Option Meaning
sign_in table word = option_map (λ c. sign (c ∷ [])) (lookup (bytes_eq word) table)

abbrev pub look_in : List (List ℕ) → List ℕ → Option Meaning
look_in table word = if list_any (bytes_eq word) table then Some look else None

abbrev pub meaning_in : List (List ℕ × Meaning) → List ℕ → Option Meaning
meaning_in table word = lookup (bytes_eq word) table

-- what the command with this word means: each word is in one table
abbrev pub meaning : List ℕ → Meaning
meaning word =
    unwrap_or
    (option_or (sign_in signs word)
    (option_or (meaning_in texts word) (option_or (look_in looks word) (meaning_in others word))))
    unknown
