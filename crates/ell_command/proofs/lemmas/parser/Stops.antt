use Rattle.std.proofs.Common.{◌≡◌, ◌&&◌, Bool, List, Option, Some, None, [], ◌∷◌, refl, sym, subst, true, false, not, codes}
use Rattle.std.specs.Prelude.{IfSome, if◌then◌else◌, fold}
use Rattle.std.specs.List.{list_any}
use Rattle.std.specs.Str.{bytes_eq}
use Rattle.std.proofs.lemmas.Slice.Eq.{bytes_eq-Decides}
use Rattle.clap.specs.Walk.{Held, Names, Outcome, Row, Rule, Step, Text, Waiting, Walk, done, waits, plain, refused, idle, option, positional, next, trailing, subcommand, value}
use Rattle.clap.specs.Walk.{after_flag, after_step, arg_by_index, long_or_other, plain_word, short_or_plain, subcommand_met, subcommand_or_other, to_positional, walked, walked_from, word_met}
use Rattle.clap.specs.Facts.{explicit_source}
use Rattle.clap.specs.Takes.{is_given}
use Rattle.clap.specs.Lexer.{long_of, short_of}
use Rattle.clap.specs.Simple.{Shape}
use Rattle.clap.specs.Kinds.{Kinds, check_kinds, or_else}
use Rattle.clap.specs.Faults.{check_fault, other_fault, step_fault, turn_fault, walk_fault, word_fault}
use Rattle.clap.specs.declared.error.kind.ErrorKind.TheVariants.{DisplayHelp}
use Rattle.ell_command.proofs.lemmas.parser.Levels.{both_none}

-- no subcommand was met, or one that is not `help`
abbrev pub IsNoHelp : Option (Text × List Text) → Type 0
IsNoHelp stop = IfSome stop (λ p. bytes_eq p.0 (codes "help") ≡ false)

-- the word is no subcommand
abbrev IsNoSubcommand : Step → Type 0
IsNoSubcommand (subcommand name) = ⊥
IsNoSubcommand _ = Unit {0}

-- what a word that names no subcommand comes to is none
plain_is_none : (c : List Rule) (waiting : Waiting) (word : Text) (h : Held) → IsNoSubcommand (plain_word c waiting word h).1
plain_is_none c idle word h = tt
plain_is_none c (option id) word h = tt
plain_is_none c positional word h = tt

flag_is_none : (c : List Rule) (waiting : Waiting) (word : Text) (h : Held) (o : Outcome) → IsNoSubcommand (after_flag c waiting word h o).1
flag_is_none c waiting word h done = tt
flag_is_none c waiting word h (waits id) = tt
flag_is_none c waiting word h plain = plain_is_none c waiting word h
flag_is_none c waiting word h refused = plain_is_none c waiting word h

short_is_none : (c : List Rule) (waiting : Waiting) (word : Text) (o : Option Text) (h : Held) → IsNoSubcommand (short_or_plain c waiting word o h).1
short_is_none c waiting word (Some flags) h = flag_is_none c waiting word _ _
short_is_none c waiting word None h = plain_is_none c waiting word h

long_is_none : (c : List Rule) (waiting : Waiting) (word : Text) (o : Option (Text × Option Text)) (h : Held) → IsNoSubcommand (long_or_other c waiting word o h).1
long_is_none c waiting word (Some p) h = flag_is_none c waiting word _ _
long_is_none c waiting word None h = short_is_none c waiting word (short_of word) h

-- a word that names no subcommand does not stop the walk
positional_goes_on : (c : List Rule) (a : Option Rule) (word : Text) (w : Walk) (h : Held) → w.stopped ≡ None → (to_positional c a word w h).stopped ≡ None
positional_goes_on c None word w h on = on
positional_goes_on c (Some a) word w h on = refl

step_goes_on : (c : List Rule) (word : Text) (w : Walk) (h : Held) (step : Step) → w.stopped ≡ None → IsNoSubcommand step → (after_step c word w h step).stopped ≡ None
step_goes_on c word w h (next waiting) on none = on
step_goes_on c word w h (trailing position) on none = on
step_goes_on c word w h (subcommand name) on none = absurd none
step_goes_on c word w h value on none = positional_goes_on c (arg_by_index c w.position) word w h on

-- a test that would be a fault is false
no_fault_without : (found off : Bool) (kinds : Kinds) → off ≡ false → (if found && not off then DisplayHelp ∷ kinds else []) ≡ [] → found ≡ false
no_fault_without false off kinds on none = refl
no_fault_without true true kinds on none = absurd (cc)
no_fault_without true false kinds on none = absurd (cc)

-- a word without a fault stops the walk at no `help`
word_goes_on : (s : Shape) (names : Names) (word : Text) (w : Walk) (o : Option Text) → w.stopped ≡ None → s.disable_help_subcommand ≡ false → other_fault s o word w.held ≡ []
    → IsNoHelp (after_step s.rules word w (subcommand_or_other s.rules o w.waiting w.position word w.held).0 (subcommand_or_other s.rules o w.waiting w.position word w.held).1).stopped
word_goes_on s names word w (Some name) on help none = no_fault_without (bytes_eq name (codes "help")) s.disable_help_subcommand _ help none
word_goes_on s names word w None on help none = elim (bytes_eq word (codes "--")) as (λ b. IsNoHelp (after_step s.rules word w (if b then (w.held, trailing w.position) else long_or_other s.rules w.waiting word (long_of word) w.held).0 (if b then (w.held, trailing w.position) else long_or_other s.rules w.waiting word (long_of word) w.held).1).stopped) [
  | true ↦ subst IsNoHelp (sym on) tt
  | false ↦ subst IsNoHelp (sym (step_goes_on s.rules word w _ _ on (long_is_none s.rules w.waiting word (long_of word) w.held))) tt
]

turn_goes_on : (s : Shape) (names : Names) (word : Text) (w : Walk) (trails : Bool) → w.stopped ≡ None → s.disable_help_subcommand ≡ false → word_fault s names trails w.waiting word w.held ≡ []
    → IsNoHelp (after_step s.rules word w (word_met s.rules names trails w.waiting w.position word w.held).0 (word_met s.rules names trails w.waiting w.position word w.held).1).stopped
turn_goes_on s names word w true on help none = subst IsNoHelp (sym (positional_goes_on s.rules (arg_by_index s.rules w.position) word w w.held on)) tt
turn_goes_on s names word w false on help none = word_goes_on s names word w (subcommand_met names w.waiting word) on help none

walked_goes_on : (s : Shape) (names : Names) (word : Text) (w : Walk) (stop : Option (Text × List Text)) → w.stopped ≡ stop → s.disable_help_subcommand ≡ false → IsNoHelp stop → turn_fault s names w word ≡ []
    → IsNoHelp (walked_from s.rules names stop w word).stopped
walked_goes_on s names word w (Some p) is help before none = before
walked_goes_on s names word w None is help before none =
    let met = word_met s.rules names w.is_trailing w.waiting w.position word w.held in
    let turn : or_else (word_fault s names w.is_trailing w.waiting word w.held) (step_fault s w.position met.0 met.1) ≡ [] = rw is at none in
    turn_goes_on s names word w w.is_trailing is help (both_none _ _ turn).0

-- a walk without a fault stops at no `help`
pub walk_goes_on : (s : Shape) (names : Names) (w : Walk) (words : List Text) → s.disable_help_subcommand ≡ false → IsNoHelp w.stopped → walk_fault s names w words ≡ [] → IsNoHelp (fold (walked s.rules names) w words).stopped
unfolding walk_fault walked
walk_goes_on s names w [] help before none = before
walk_goes_on s names w (word ∷ words) help before none =
    let parts = both_none (turn_fault s names w word) (walk_fault s names (walked s.rules names w word) words) none in
    walk_goes_on s names (walked s.rules names w word) words help (walked_goes_on s names word w w.stopped refl help before parts.0) parts.1

-- the text is not `help`
pub no_help_named : (name : Text) → bytes_eq name (codes "help") ≡ false → bytes_eq (codes "help") name ≡ false
no_help_named name other = elim (bytes_eq (codes "help") name) as (λ b. bytes_eq (codes "help") name ≡ b → b ≡ false) [
  | true ↦ λ same.
      let is : codes "help" ≡ name = (bytes_eq-Decides (codes "help") name).0 same in
      let bad : bytes_eq (codes "help") (codes "help") ≡ false = subst (λ n. bytes_eq n (codes "help") ≡ false) (sym is) other in
      absurd (cc)
  | false ↦ λ same. refl
] refl

-- no subcommand is wanted where the last checks pass
no_want : (a b c : Bool) → check_kinds a b c ≡ [] → b ≡ false
no_want true b c none = absurd (cc)
no_want false true c none = absurd (cc)
no_want false false c none = refl

-- a subcommand that is required was met
pub was_met : (s : Shape) (rows : List Row) (has : Bool) → s.subcommand_required ≡ true → check_fault s rows has ≡ [] → has ≡ true
was_met s rows true required none = refl
was_met s rows false required none =
    let unwanted : true && s.subcommand_required ≡ false =
    no_want (s.arg_required_else_help && not (list_any (λ r. explicit_source r.source) rows)) (true && s.subcommand_required)
    (not (s.subcommand_negates_reqs && false) && list_any (λ a. a.required && not (is_given a.id rows)) s.rules) none in
    absurd (cc)
