-- The version of some lines, and of the same with one line more.
use Rattle.std.proofs.Common.{◌≡◌, Bool, true, false, ◌&&◌, List, [], ◌∷◌, ◌++◌, Option, None, Ok, refl, sym, ap, ◌∙◌, ⊎_elim, ℕ, if◌then◌else◌}
use Rattle.std.proofs.lemmas.Bool.{cases_Bool, cond-true, cond-false, false≢true}
use Rattle.std.specs.List.{cons_option, filter_map, list_all}
use Rattle.ell_text.specs.declared.line.Section.{Section}
use Rattle.ell_text.specs.declared.line.Section.TheVariants.{Head, Opening}
use Rattle.ell_text.specs.declared.version.Version.{Version}
use Rattle.ell_text.specs.declared.version.Version.TheVariants.{One, Two}
use Rattle.ell_text.specs.Bulk.{operation_in, said_by, start_in, version_of}
use Rattle.ell_text.specs.Line.{line_of, said_in, says_version, unless_skipped}
use Rattle.ell_text.specs.Lines.{is_skipped}
use Rattle.ell_text.specs.Version.{version_number, version_numbered}

-- a version has its number
pub numbered : (version : Version) → version_numbered (version_number version) ≡ version
numbered One = refl
numbered Two = refl

first_true : (a b : Bool) → (a && b) ≡ true → a ≡ true
first_true true b both = refl
first_true false b both = absurd (false≢true both)

second_true : (a b : Bool) → (a && b) ≡ true → b ≡ true
second_true true b both = both
second_true false b both = absurd (false≢true both)

-- a skipped line says nothing, whatever the version and the section
pub skipped_line : (version : Version) (section : Section) (line : List ℕ) → is_skipped line ≡ true → line_of version section line ≡ Ok None
skipped_line version section line skipped = ap (λ skips. unless_skipped skips (said_in version section line)) skipped

-- the first line that is not skipped stands behind these
pub version_behind_skipped : (front more : List (List ℕ)) → list_all is_skipped front ≡ true → version_of (front ++ more) ≡ version_of more
version_behind_skipped [] more all = refl
version_behind_skipped (line ∷ front) more all =
    cond-true _ _ _ (first_true (is_skipped line) _ all) ∙ version_behind_skipped front more (second_true (is_skipped line) _ all)

-- the first line that is not skipped is one of these
pub version_behind_spoken : (front more : List (List ℕ)) → list_all is_skipped front ≡ false → version_of (front ++ more) ≡ version_of front
version_behind_spoken [] more some = absurd (false≢true (sym some))
version_behind_spoken (line ∷ front) more some = ⊎_elim
    (λ skipped.
    let behind : list_all is_skipped front ≡ false = sym (ap (λ skips. skips && list_all is_skipped front) skipped) ∙ some in
    cond-true _ _ _ skipped ∙ version_behind_spoken front more behind ∙ sym (cond-true _ _ _ skipped))
    (λ spoken. cond-false _ _ _ spoken ∙ sym (cond-false _ _ _ spoken))
    (cases_Bool (is_skipped line))

-- lines that are skipped have version 1
pub version_of_skipped : (front : List (List ℕ)) → list_all is_skipped front ≡ true → version_of front ≡ One
version_of_skipped [] all = refl
version_of_skipped (line ∷ front) all =
    cond-true _ _ _ (first_true (is_skipped line) _ all) ∙ version_of_skipped front (second_true (is_skipped line) _ all)

-- the first line that is not skipped says the version, or else it is 1
pub version_of_head : (line : List ℕ) → is_skipped line ≡ false → says_version Head line ≡ true → version_of (line ∷ []) ≡ Two
version_of_head line spoken says = cond-false _ _ _ spoken ∙ cond-true _ _ _ says

pub version_of_other : (line : List ℕ) → is_skipped line ≡ false → says_version Head line ≡ false → version_of (line ∷ []) ≡ One
version_of_other line spoken says = cond-false _ _ _ spoken ∙ cond-false _ _ _ says

-- one line more, which is skipped
pub version_skipped_more : (front : List (List ℕ)) (line : List ℕ) → is_skipped line ≡ true → version_of (front ++ line ∷ []) ≡ version_of front
version_skipped_more [] line skipped = cond-true _ _ _ skipped
version_skipped_more (first ∷ front) line skipped = ap (λ version. if is_skipped first then version else if says_version Head first then Two else One) (version_skipped_more front line skipped)

-- what only a line that is not skipped gives
none_of : {X : Type 0} (f : List ℕ → Option X) (text : List (List ℕ)) → ((line : List ℕ) → is_skipped line ≡ true → f line ≡ None)
    → list_all is_skipped text ≡ true → filter_map f text ≡ []
none_of f [] none all = refl
none_of f (line ∷ text) none all =
    ap (λ given. cons_option given (filter_map f text)) (none line (first_true (is_skipped line) _ all))
    ∙ none_of f text none (second_true (is_skipped line) _ all)

-- lines that are skipped say nothing in any version
pub said_by_skipped : (version : Version) (text : List (List ℕ)) → list_all is_skipped text ≡ true
    → said_by version text ≡ record { version = version_number version; start = []; ops = [] }
said_by_skipped version text all =
    ap (λ start. record { version = version_number version; start = start; ops = (said_by version text).ops })
    (none_of (λ line. start_in (line_of version Opening line)) text (λ line skipped. ap start_in (skipped_line version Opening line skipped)) all)
    ∙ ap (λ ops. record { version = version_number version; start = []; ops = ops })
    (none_of (λ line. operation_in (line_of version Opening line)) text (λ line skipped. ap operation_in (skipped_line version Opening line skipped)) all)
