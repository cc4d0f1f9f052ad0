mod Divided
mod Found
mod PartsOf
mod Says
mod Yaml
