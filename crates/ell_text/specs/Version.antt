use Rattle.std.specs.Prelude.{ℕ, ◌≡◌, ◌⊎◌, ◌==◌, if◌then◌else◌}
use Rattle.ell_text.specs.declared.version.Version.{Version}
use Rattle.ell_text.specs.declared.version.Version.TheVariants.{One, Two}

-- some version has this number
abbrev pub IsVersion : ℕ → Type 0
IsVersion number = (number ≡ 1) ⊎ (number ≡ 2)

-- the version that has a number
abbrev pub version_numbered : ℕ → Version
version_numbered number = if number == 2 then Two else One

-- the number of a version
abbrev pub version_number : Version → ℕ
version_number One = 1
version_number Two = 2
