-- The accents: what they write, and the letters that they compose with.
use Rattle.std.specs.Prelude.{ℕ, ◌==◌, List, [], ◌∷◌, Option, None, Some, if◌then◌else◌, codes}
use Rattle.std.specs.Map.{lookup}
use Rattle.haya_latex_words.specs.declared.accent.Accent.{Accent}
use Rattle.haya_latex_words.specs.declared.accent.Accent.TheVariants.{Grave, Acute, Circumflex, Diaeresis, Tilde, Macron, Dot, Breve, Caron, DoubleAcute, Ring, Cedilla, Ogonek, DotBelow, MacronBelow, Tie}

-- the accents that are a backslash and a sign
abbrev pub accent_signs : List (ℕ × Accent)
accent_signs =
    (96, Grave)
    ∷ (39, Acute)
    ∷ (94, Circumflex)
    ∷ (34, Diaeresis)
    ∷ (126, Tilde)
    ∷ (61, Macron)
    ∷ (46, Dot) ∷ []

abbrev pub accent_of : ℕ → Option Accent
accent_of c = lookup (λ k. c == k) accent_signs

-- the combining mark
abbrev pub mark : Accent → ℕ
mark Grave = 768
mark Acute = 769
mark Circumflex = 770
mark Diaeresis = 776
mark Tilde = 771
mark Macron = 772
mark Dot = 775
mark Breve = 774
mark Caron = 780
mark DoubleAcute = 779
mark Ring = 778
mark Cedilla = 807
mark Ogonek = 808
mark DotBelow = 803
mark MacronBelow = 817
mark Tie = 865

-- the accent alone, where it is written without a letter
abbrev pub alone : Accent → Option ℕ
alone Grave = Some 96
alone Acute = Some 180
alone Circumflex = Some 94
alone Diaeresis = Some 168
alone Tilde = Some 126
alone Macron = Some 175
alone Dot = Some 729
alone Breve = Some 728
alone Caron = Some 711
alone DoubleAcute = Some 733
alone Ring = Some 730
alone Cedilla = Some 184
alone Ogonek = Some 731
alone DotBelow = None
alone MacronBelow = None
alone Tie = None

-- two by two
abbrev pub pairs : List ℕ → List (ℕ × ℕ)
pairs [] = []
pairs (a ∷ []) = []
pairs (a ∷ b ∷ xs) = (a, b) ∷ pairs xs

-- the letters that an accent composes with, each before the letter with it
abbrev pub letters : Accent → List (ℕ × ℕ)
letters Grave = pairs (codes "AÀEÈIÌOÒUÙNǸWẀYỲaàeèiìoòuùnǹwẁyỳ")
letters Acute = pairs (codes "AÁCĆEÉGǴIÍKḰLĹMḾNŃOÓPṔRŔSŚUÚWẂYÝZŹÆǼØǾaácćeégǵiíkḱlĺmḿnńoópṕrŕsśuúwẃyýzźæǽøǿ")
letters Circumflex = pairs (codes "AÂCĈEÊGĜHĤIÎJĴOÔSŜUÛWŴYŶZẐaâcĉeêgĝhĥiîjĵoôsŝuûwŵyŷzẑ")
letters Diaeresis = pairs (codes "AÄEËHḦIÏOÖUÜWẄXẌYŸaäeëhḧiïoötẗuüwẅxẍyÿ")
letters Tilde = pairs (codes "AÃEẼIĨNÑOÕUŨVṼYỸaãeẽiĩnñoõuũvṽyỹ")
letters Macron = pairs (codes "AĀEĒGḠIĪOŌUŪYȲÆǢaāeēgḡiīoōuūyȳæǣ")
letters Dot = pairs (codes "AȦBḂCĊDḊEĖFḞGĠHḢIİMṀNṄOȮPṖRṘSṠTṪWẆXẊYẎZŻaȧbḃcċdḋeėfḟgġhḣmṁnṅoȯpṗrṙsṡtṫwẇxẋyẏzż")
letters Breve = pairs (codes "AĂEĔGĞIĬOŎUŬaăeĕgğiĭoŏuŭ")
letters Caron = pairs (codes "AǍCČDĎEĚGǦHȞIǏKǨLĽNŇOǑRŘSŠTŤUǓZŽaǎcčdďeěgǧhȟiǐjǰkǩlľnňoǒrřsštťuǔzž")
letters DoubleAcute = pairs (codes "OŐUŰoőuű")
letters Ring = pairs (codes "AÅUŮaåuůwẘyẙ")
letters Cedilla = pairs (codes "CÇDḐEȨGĢHḨKĶLĻNŅRŖSŞTŢcçdḑeȩgģhḩkķlļnņrŗsştţ")
letters Ogonek = pairs (codes "AĄEĘIĮOǪUŲaąeęiįoǫuų")
letters DotBelow = pairs (codes "AẠBḄDḌEẸHḤIỊKḲLḶMṂNṆOỌRṚSṢTṬUỤVṾWẈYỴZẒaạbḅdḍeẹhḥiịkḳlḷmṃnṇoọrṛsṣtṭuụvṿwẉyỵzẓ")
letters MacronBelow = pairs (codes "BḆDḎKḴLḺNṈRṞTṮZẔbḇdḏhẖkḵlḻnṉrṟtṯzẕ")
letters Tie = []

abbrev pub composed : Accent → ℕ → Option ℕ
composed a c = lookup (λ k. c == k) (letters a)

-- ı and ȷ carry accents as i and j
abbrev pub dotted : ℕ → ℕ
dotted c = if c == 305 then 105 else if c == 567 then 106 else c
