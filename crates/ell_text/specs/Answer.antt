use Rattle.std.specs.Prelude.{ℕ, List, ◌++◌, length, codes}
use Rattle.std.specs.List.{flat_map}
use Rattle.std.specs.Fmt.{decimal}
use Rattle.ell_ops.specs.declared.reply.Reply.{Reply}
use Rattle.ell_ops.specs.declared.reply.Reply.TheVariants.{Yes, No, Found}
use Rattle.ell_text.specs.declared.version.Version.{Version}
use Rattle.ell_text.specs.declared.version.Version.TheVariants.{One, Two}
use Rattle.ell_text.specs.Version.{version_numbered}

-- the line of a number: its decimal digits
abbrev pub number_line : ℕ → List ℕ
number_line n = decimal n ++ codes "\n"

-- the line of a reply: in version 2 a find shows the value that it found
abbrev pub reply_line : Version → Reply → List ℕ
reply_line version No = codes "no\n"
reply_line version Yes = codes "yes\n"
reply_line One (Found value) = codes "yes\n"
reply_line Two (Found value) = codes "yes " ++ number_line value

-- the line of a key with its value: in version 1 of the key alone
abbrev pub pair_line : Version → ℕ × ℕ → List ℕ
pair_line One pair = number_line pair.0
pair_line Two pair = decimal pair.0 ++ codes " " ++ number_line pair.1

-- a line with the number of the keys, and a line for each key
abbrev pub keys_lines : {K : Type 0} → (K → List ℕ) → List K → List ℕ
keys_lines line keys = codes "keys " ++ number_line (length keys) ++ flat_map line keys

-- a line for each item, and the lines of the keys
abbrev pub listing : {X K : Type 0} → (X → List ℕ) → (K → List ℕ) → List X → List K → List ℕ
listing line key_line items keys = flat_map line items ++ keys_lines key_line keys

-- a line for each reply, and the lines of the keys with their values
abbrev pub answer : ℕ → List Reply → List (ℕ × ℕ) → List ℕ
answer version replies pairs =
    listing (reply_line (version_numbered version)) (pair_line (version_numbered version)) replies pairs
