use Rattle.std.proofs.Common.{◌≡◌, ◌⊎◌, ◌&&◌, ◌||◌, ◌++◌, ℕ, Bool, List, Option, Some, None, [], ◌∷◌, inl, inr, refl, true, false, zero, suc, not, is_some, drop, length, arith}
use Rattle.std.specs.Prelude.{if◌then◌else◌, fold, find, encode_utf8, slice_get, nat_lt}
use Rattle.std.specs.Option.{option_map_or}
use Rattle.std.specs.Str.{bytes_eq, chars}
use Rattle.std.proofs.lemmas.Bool.{ne_eqb}
use Rattle.clap.specs.Walk.{Held, Names, Outcome, Row, Rule, Step, Text, Waiting, Walk, done, waits, plain, refused, idle, option, positional, next, trailing, subcommand, value}
use Rattle.clap.specs.Walk.{action_of, after_flag, after_step, arg_by_id, arg_by_index, arg_by_long, arg_by_short, at_row, attached_value, bundle_met, bundle_step, default_rows, finished, flag_met, has_long, has_row, has_short, is_empty, is_pending, long_met, long_or_other, more_values, most_values, nothing_held, option_met, option_word, plain_word, reacted, reading_by, settled, settled_rows, short_met, short_or_plain, subcommand_met, subcommand_or_other, takes_several, takes_values, to_positional, used, used_as, used_by_id, values_or_missing, walk, walk_from, walked, walked_from, with_default, with_values, without, word_met}
use Rattle.clap.specs.Lexer.{long_of, short_of}
use Rattle.clap.specs.Facts.{unwrap_or_range}
use Rattle.clap.specs.Values.{is_request}
use Rattle.clap.specs.Takes.{value_passes}
use Rattle.clap.specs.Simple.{Shape}
use Rattle.clap.specs.Kinds.{Kinds, or_else, range_kinds, request_kinds}
use Rattle.clap.specs.Faults.{action_fault, bundle_fault, bundle_step_fault, default_fault, defaults_fault, flag_word_fault, flags_fault, level_fault, long_fault, option_fault, other_fault, positional_fault, react_fault, settle_fault, short_fault, step_fault, stray_fault, turn_fault, use_fault, values_fault, walk_fault, word_fault}
use Rattle.clap.specs.declared.builder.action.ArgAction.{ArgAction}
use Rattle.clap.specs.declared.builder.action.ArgAction.TheVariants as action
use Rattle.clap.specs.declared.error.kind.ErrorKind.{ErrorKind}
use Rattle.clap.specs.declared.error.kind.ErrorKind.TheVariants as kind
use Rattle.clap.specs.declared.parser.matches.ValueSource.{ValueSource}
use Rattle.clap.specs.declared.parser.matches.ValueSource.TheVariants.{CommandLine, DefaultValue}
use Rattle.ell_command.proofs.lemmas.parser.Levels.{both_none, level_parts}

abbrev pub IsNonEmpty : List Text → Type 0
IsNonEmpty [] = ⊥
IsNonEmpty (v ∷ vs) = Unit {0}

-- the first value passes the rule
abbrev pub FirstPasses : Rule → List Text → Type 0
FirstPasses a [] = ⊥
FirstPasses a (v ∷ vs) = value_passes a v ≡ true

-- the rule is one of these
abbrev pub IsOneOf : List Rule → Rule → Type 0
IsOneOf [] a = ⊥
IsOneOf (x ∷ xs) a = (a ≡ x) ⊎ IsOneOf xs a

-- the row is that of a rule, and its first value passes
abbrev pub Fits : List Rule → Row → Type 0
Fits c r = (a : Rule) × IsOneOf c a × (r.id ≡ a.id) × (r.reading ≡ reading_by a) × FirstPasses a r.values

abbrev pub AllFit : List Rule → List Row → Type 0
AllFit c [] = Unit {0}
AllFit c (r ∷ rs) = Fits c r × AllFit c rs

-- a use of the rule that is no fault has a value
abbrev pub GivesValues : Rule → Type 0
GivesValues a = (nat_lt 0 (unwrap_or_range a.range).start_inclusive ≡ true) ⊎ (IsNonEmpty a.missing ⊎ (is_request (action_of a) ≡ true))

-- each of the rules xs is among c, and its uses have values
abbrev pub AreSound : List Rule → List Rule → Type 0
AreSound c [] = Unit {0}
AreSound c (a ∷ xs) = (IsOneOf c a × GivesValues a) × AreSound c xs

abbrev IsSoundIf : List Rule → Option Rule → Type 0
IsSoundIf c None = Unit {0}
IsSoundIf c (Some a) = IsOneOf c a × GivesValues a

find_sound : (c : List Rule) (p : Rule → Bool) (xs : List Rule) → AreSound c xs → IsSoundIf c (find p xs)
find_sound c p [] sound = tt
find_sound c p (a ∷ xs) sound = go (p a) (find_sound c p xs sound.1)
  where
    go : (b : Bool) → IsSoundIf c (find p xs) → IsSoundIf c (if b then Some a else find p xs)
    go true rest = sound.0
    go false rest = rest

-- ---- steps without a fault

-- a test that would be a fault
passed : (b : Bool) (k : ErrorKind) → (if b then [] else k ∷ []) ≡ [] → b ≡ true
passed true k none = refl
passed false k none = absurd (cc)

first_passes : (a : Rule) (values : List Text) → IsNonEmpty values → values_fault a values ≡ [] → FirstPasses a values
first_passes a [] some none = absurd some
first_passes a (v ∷ vs) some none = passed (value_passes a v) _ (both_none _ _ none).0

still_passes : (a : Rule) (values more : List Text) → FirstPasses a values → FirstPasses a (values ++ more)
still_passes a [] more passes = absurd passes
still_passes a (v ∷ vs) more passes = passes

-- a use with as many values as it wants has one, or asks for help
has_values : (a : Rule) (most : ℕ) (values : List Text) → GivesValues a → range_kinds (unwrap_or_range a.range).start_inclusive most (length values) ≡ []
    → IsNonEmpty (values_or_missing a values) ⊎ (is_request (action_of a) ≡ true)
has_values a most (v ∷ vs) gives none = inl tt
has_values a most [] (inr (inl missing)) none = inl missing
has_values a most [] (inr (inr asks)) none = inr asks
has_values a most [] (inl least) none =
    let bad : kind.InvalidValue ∷ [] ≡ [] = rw least at none in
    absurd (cc)

module _ (c : List Rule) where
  join_fits : (xs ys : List Row) → AllFit c xs → AllFit c ys → AllFit c (xs ++ ys)
  join_fits [] ys left right = right
  join_fits (x ∷ xs) ys left right = (left.0, join_fits xs ys left.1 right)

  at_row_fits : (id : Text) (change : Row → List Row) (missing rows : List Row) → AllFit c rows → AllFit c missing → ((r : Row) → Fits c r → AllFit c (change r)) → AllFit c (at_row id change missing rows)
  at_row_fits id change missing [] fit new changed = new
  at_row_fits id change missing (r ∷ rs) fit new changed = go (bytes_eq r.id id) (at_row_fits id change missing rs fit.1 new changed)
    where
      go : (b : Bool) → AllFit c (at_row id change missing rs) → AllFit c (if b then change r ++ rs else r ∷ at_row id change missing rs)
      go true rest = join_fits (change r) rs (changed r fit.0) fit.1
      go false rest = (fit.0, rest)

  without_fits : (id : Text) (rows : List Row) → AllFit c rows → AllFit c (without id rows)
  without_fits id rows fit = at_row_fits id (λ _. []) [] rows fit tt (λ r one. tt)

  with_values_fits : (a : Rule) (s : ValueSource) (values : List Text) (rows : List Row) → IsOneOf c a → FirstPasses a values → AllFit c rows → AllFit c (with_values a.id (reading_by a) s values rows)
  with_values_fits a s values rows of passes fit =
      at_row_fits a.id (more_values s values) _ rows fit ((a, of, refl, refl, passes), tt) (λ r one. ((one.0, one.1, one.2, one.3, still_passes one.0 r.values values one.4), tt))

  -- ---- one use of an argument

  action_fits : (x : ArgAction) (again : Bool) (a : Rule) (values : List Text) (rows : List Row) → IsOneOf c a → IsNonEmpty values ⊎ (is_request x ≡ true) → action_fault x again a values rows ≡ [] → AllFit c rows
      → AllFit c (used_as x a.id (reading_by a) values rows)
  action_fits action.Set again a values rows of (inl some) none fit =
      with_values_fits a CommandLine values _ of (first_passes a values some (both_none _ _ none).1) (without_fits a.id rows fit)
  action_fits action.SetTrue again a values rows of (inl some) none fit =
      with_values_fits a CommandLine values _ of (first_passes a values some (both_none _ _ none).1) (without_fits a.id rows fit)
  action_fits action.SetFalse again a values rows of (inl some) none fit =
      with_values_fits a CommandLine values _ of (first_passes a values some (both_none _ _ none).1) (without_fits a.id rows fit)
  action_fits action.Append again a values rows of (inl some) none fit = with_values_fits a CommandLine values rows of (first_passes a values some none) fit
  action_fits action.Count again a [] rows of (inl some) none fit = absurd some
  action_fits action.Count again a (v ∷ vs) rows of (inl some) none fit =
      with_values_fits a CommandLine (v ∷ vs) _ of (first_passes a (v ∷ vs) tt none) (without_fits a.id rows fit)
  action_fits action.Help again a values rows of some none fit = fit
  action_fits action.HelpShort again a values rows of some none fit = fit
  action_fits action.HelpLong again a values rows of some none fit = fit
  action_fits action.Version again a values rows of some none fit = fit
  action_fits action.Set again a values rows of (inr asks) none fit = absurd (cc)
  action_fits action.SetTrue again a values rows of (inr asks) none fit = absurd (cc)
  action_fits action.SetFalse again a values rows of (inr asks) none fit = absurd (cc)
  action_fits action.Append again a values rows of (inr asks) none fit = absurd (cc)
  action_fits action.Count again a values rows of (inr asks) none fit = absurd (cc)

  used_fits : (again : Bool) (a : Rule) (values : List Text) (rows : List Row) → IsOneOf c a × GivesValues a → use_fault again a values rows ≡ [] → AllFit c rows → AllFit c (used a values rows)
  used_fits again a values rows sound none fit =
      let parts = both_none (range_kinds (unwrap_or_range a.range).start_inclusive (most_values a) (length values)) (action_fault (action_of a) again a (values_or_missing a values) rows) none in
      action_fits (action_of a) again a (values_or_missing a values) rows sound.0 (has_values a (most_values a) values sound.1 parts.0) parts.1 fit

  module _ (sound : AreSound c c) (again : Bool) where
    found_fits : (o : Option Rule) (values : List Text) (rows : List Row) → IsSoundIf c o → option_map_or (λ a. use_fault again a values rows) o [] ≡ [] → AllFit c rows → AllFit c (used_by_id o values rows)
    found_fits None values rows of none fit = fit
    found_fits (Some a) values rows of none fit = used_fits again a values rows of none fit

    pending_fits : (p : Option (Text × List Text)) (rows : List Row) → option_map_or (λ q. option_map_or (λ a. use_fault again a q.1 rows) (arg_by_id c q.0) []) p [] ≡ [] → AllFit c rows → AllFit c (settled_rows c p rows)
    pending_fits None rows none fit = fit
    pending_fits (Some q) rows none fit = found_fits (arg_by_id c q.0) q.1 rows (find_sound c (λ a. bytes_eq a.id q.0) c sound) none fit

    settled_fits : (h : Held) → settle_fault c again h ≡ [] → AllFit c h.rows → AllFit c (settled c h).rows
    settled_fits h none fit = pending_fits h.pending h.rows none fit

    reacted_fits : (a : Rule) (values : List Text) (h : Held) → IsOneOf c a × GivesValues a → react_fault c again a values h ≡ [] → AllFit c h.rows → AllFit c (reacted c a values h).rows
    reacted_fits a values h of none fit =
        let parts = both_none (settle_fault c again h) (use_fault again a values (settled c h).rows) none in
        used_fits again a values (settled c h).rows of parts.1 (settled_fits h parts.0 fit)

    option_fits : (a : Rule) (v : Option Text) (h : Held) → IsOneOf c a × GivesValues a → option_fault c again a v h ≡ [] → AllFit c h.rows → AllFit c (option_met c a v h).0.rows
    option_fits a (Some v) h of none fit = reacted_fits a (v ∷ []) h of none fit
    option_fits a None h of none fit = settled_fits h none fit

    flag_fits : (a : Rule) (v : Option Text) (h : Held) → IsOneOf c a × GivesValues a → (if is_some v then kind.TooManyValues ∷ [] else react_fault c again a [] h) ≡ [] → AllFit c h.rows → AllFit c (flag_met c a v h).0.rows
    flag_fits a (Some v) h of none fit = fit
    flag_fits a None h of none fit = reacted_fits a [] h of none fit

    -- ---- a word that is a flag

    long_fits : (o : Option Rule) (v : Option Text) (h : Held) → IsSoundIf c o → long_fault c again o v h ≡ [] → AllFit c h.rows → AllFit c (long_met c o v h).0.rows
    long_fits None v h of none fit = fit
    long_fits (Some a) v h of none fit = go (takes_values a) none
      where
        go : (b : Bool) → (if b then option_fault c again a v h else (if is_some v then kind.TooManyValues ∷ [] else react_fault c again a [] h)) ≡ [] → AllFit c (if b then option_met c a v h else flag_met c a v h).0.rows
        go true none = option_fits a v h of none fit
        go false none = flag_fits a v h of none fit

    short_fits : (o : Option Rule) (rest : Text) (h : Held) (f : Held → Held × Outcome) (faults : Held → Kinds) → IsSoundIf c o → ((k : Held) → faults k ≡ [] → AllFit c k.rows → AllFit c (f k).0.rows)
        → short_fault c again o rest h faults ≡ [] → AllFit c h.rows → AllFit c (short_met c o rest h f).0.rows
    short_fits None rest h f faults of more none fit = fit
    short_fits (Some a) rest h f faults of more none fit = go (takes_values a) none
      where
        go : (b : Bool) → (if b then option_fault c again a (attached_value rest) h else or_else (react_fault c again a [] h) (faults (reacted c a [] h))) ≡ []
            → AllFit c (if b then option_met c a (attached_value rest) h else f (reacted c a [] h)).0.rows
        go true none = option_fits a (attached_value rest) h of none fit
        go false none =
            let parts = both_none (react_fault c again a [] h) (faults (reacted c a [] h)) none in
            more (reacted c a [] h) parts.1 (reacted_fits a [] h of parts.0 fit)

    bundle_step_fits : (o : Option ℕ) (flags : Text) (skip : ℕ) (so_far : Outcome) (h : Held) (f : Text → ℕ → Outcome → Held → Held × Outcome) (faults : Text → ℕ → Held → Kinds)
        → ((t : Text) (n : ℕ) (x : Outcome) (k : Held) → faults t n k ≡ [] → AllFit c k.rows → AllFit c (f t n x k).0.rows)
        → bundle_step_fault c again o flags skip h faults ≡ [] → AllFit c h.rows → AllFit c (bundle_step c o flags skip so_far h f).0.rows
    bundle_step_fits None flags skip so_far h f faults more none fit = fit
    bundle_step_fits (Some x) flags zero so_far h f faults more none fit =
        let rest = drop (length (encode_utf8 x)) flags in
        short_fits (arg_by_short c x) rest h (f rest 0 done) (faults rest 0) (find_sound c (λ a. not (is_some a.index) && has_short a x) c sound) (more rest 0 done) none fit
    bundle_step_fits (Some x) flags (suc skip) so_far h f faults more none fit = more _ skip so_far h none fit

    bundle_fits : (k : ℕ) (flags : Text) (skip : ℕ) (so_far : Outcome) (h : Held) → flags_fault c again k flags skip h ≡ [] → AllFit c h.rows → AllFit c (bundle_met c k flags skip so_far h).0.rows
    unfolding bundle_met flags_fault
    bundle_fits zero flags skip so_far h none fit = fit
    bundle_fits (suc k) flags skip so_far h none fit =
        bundle_step_fits (slice_get (chars flags) 0) flags skip so_far h (bundle_met c k) (flags_fault c again k) (λ t n x j. bundle_fits k t n x j) none fit

    option_word_fits : (o : Option Rule) (id word : Text) (h : Held) → AllFit c h.rows → AllFit c (option_word o id word h).0.rows
    option_word_fits None id word h fit = fit
    option_word_fits (Some a) id word h fit = fit

    plain_fits : (waiting : Waiting) (word : Text) (h : Held) → AllFit c h.rows → AllFit c (plain_word c waiting word h).0.rows
    plain_fits idle word h fit = fit
    plain_fits positional word h fit = fit
    plain_fits (option id) word h fit = option_word_fits (arg_by_id c id) id word h fit

    after_fits : (waiting : Waiting) (word : Text) (h : Held) (o : Outcome) → AllFit c h.rows → AllFit c (after_flag c waiting word h o).0.rows
    after_fits waiting word h done fit = fit
    after_fits waiting word h (waits id) fit = fit
    after_fits waiting word h plain fit = plain_fits waiting word h fit
    after_fits waiting word h refused fit = plain_fits waiting word h fit

    short_word_fits : (waiting : Waiting) (word : Text) (o : Option Text) (h : Held) → option_map_or (λ flags. bundle_fault c again flags h) o [] ≡ [] → AllFit c h.rows → AllFit c (short_or_plain c waiting word o h).0.rows
    short_word_fits waiting word None h none fit = plain_fits waiting word h fit
    short_word_fits waiting word (Some flags) h none fit = after_fits waiting word _ _ (bundle_fits (length flags) flags h.skip plain (record h { skip = 0 }) none fit)

    long_word_fits : (waiting : Waiting) (word : Text) (o : Option (Text × Option Text)) (h : Held) → flag_word_fault c again o word h ≡ [] → AllFit c h.rows → AllFit c (long_or_other c waiting word o h).0.rows
    long_word_fits waiting word None h none fit = short_word_fits waiting word (short_of word) h none fit
    long_word_fits waiting word (Some p) h none fit =
        after_fits waiting word _ _ (long_fits (arg_by_long c p.0) p.1 h (find_sound c (λ a. not (is_some a.index) && has_long a p.0) c sound) none fit)

-- ---- the walk

module _ (s : Shape) (subs : Names) (sound : AreSound s.rules s.rules) where
  other_fits : (o : Option Text) (waiting : Waiting) (position : ℕ) (word : Text) (h : Held) → other_fault s o word h ≡ [] → AllFit s.rules h.rows → AllFit s.rules (subcommand_or_other s.rules o waiting position word h).0.rows
  other_fits (Some name) waiting position word h none fit = fit
  other_fits None waiting position word h none fit = go (bytes_eq word (45 ∷ 45 ∷ [])) none
    where
      go : (b : Bool) → (if b then [] else flag_word_fault s.rules s.args_override_self (long_of word) word h) ≡ []
          → AllFit s.rules (if b then (h, trailing position) else long_or_other s.rules waiting word (long_of word) h).0.rows
      go true none = fit
      go false none = long_word_fits s.rules sound s.args_override_self waiting word (long_of word) h none fit

  met_fits : (trails : Bool) (waiting : Waiting) (position : ℕ) (word : Text) (h : Held) → word_fault s subs trails waiting word h ≡ [] → AllFit s.rules h.rows → AllFit s.rules (word_met s.rules subs trails waiting position word h).0.rows
  met_fits true waiting position word h none fit = fit
  met_fits false waiting position word h none fit = other_fits (subcommand_met subs waiting word) waiting position word h none fit

  positional_fits : (o : Option Rule) (word : Text) (w : Walk) (h : Held) → option_map_or (λ a. positional_fault s.rules s.args_override_self a h) o (stray_fault s) ≡ [] → AllFit s.rules h.rows → AllFit s.rules (to_positional s.rules o word w h).held.rows
  positional_fits None word w h none fit = fit
  positional_fits (Some a) word w h none fit = go (is_pending a h.pending && takes_several a) none
    where
      go : (b : Bool) → (if b then [] else settle_fault s.rules s.args_override_self h) ≡ [] → AllFit s.rules (if b then h else settled s.rules h).rows
      go true none = fit
      go false none = settled_fits s.rules sound s.args_override_self h none fit

  step_fits : (word : Text) (w : Walk) (h : Held) (step : Step) → step_fault s w.position h step ≡ [] → AllFit s.rules h.rows → AllFit s.rules (after_step s.rules word w h step).held.rows
  step_fits word w h (next waiting) none fit = fit
  step_fits word w h (trailing position) none fit = fit
  step_fits word w h (subcommand name) none fit = fit
  step_fits word w h value none fit = positional_fits (arg_by_index s.rules w.position) word w h none fit

  turn_fits : (w : Walk) (word : Text) (stop : Option (Text × List Text)) → w.stopped ≡ stop → turn_fault s subs w word ≡ [] → AllFit s.rules w.held.rows → AllFit s.rules (walked_from s.rules subs stop w word).held.rows
  turn_fits w word (Some p) is none fit = fit
  turn_fits w word None is none fit =
      let met = word_met s.rules subs w.is_trailing w.waiting w.position word w.held in
      let turn : or_else (word_fault s subs w.is_trailing w.waiting word w.held) (step_fault s w.position met.0 met.1) ≡ [] = rw is at none in
      let parts = both_none (word_fault s subs w.is_trailing w.waiting word w.held) (step_fault s w.position met.0 met.1) turn in
      step_fits word w met.0 met.1 parts.1 (met_fits w.is_trailing w.waiting w.position word w.held parts.0 fit)

  walk_fits : (w : Walk) (words : List Text) → walk_fault s subs w words ≡ [] → AllFit s.rules w.held.rows → AllFit s.rules (fold (walked s.rules subs) w words).held.rows
  unfolding walk_fault walked
  walk_fits w [] none fit = fit
  walk_fits w (word ∷ words) none fit =
      let parts = both_none (turn_fault s subs w word) (walk_fault s subs (walked s.rules subs w word) words) none in
      walk_fits (walked s.rules subs w word) words parts.1 (turn_fits w word w.stopped refl parts.0 fit)

-- ---- defaults

not_empty : (v : Text) (vs : List Text) → is_empty (v ∷ vs) ≡ false
not_empty v vs = ne_eqb _ _ (λ is. omega arith)

module _ (c : List Rule) where
  default_given : (a : Rule) (values : List Text) (rows : List Row) → IsOneOf c a → (if is_empty values then [] else or_else (request_kinds (action_of a)) (values_fault a values)) ≡ [] → AllFit c rows
      → AllFit c (default_rows a.id (reading_by a) values rows)
  default_given a [] rows of none fit = fit
  default_given a (v ∷ vs) rows of none fit =
      let given : or_else (request_kinds (action_of a)) (values_fault a (v ∷ vs)) ≡ [] = rw (not_empty v vs) at none in
      with_values_fits c a DefaultValue (v ∷ vs) rows of (first_passes a (v ∷ vs) tt (both_none (request_kinds (action_of a)) _ given).1) fit

  default_fits : (a : Rule) (rows : List Row) → IsOneOf c a → default_fault rows a ≡ [] → AllFit c rows → AllFit c (with_default rows a)
  default_fits a rows of none fit = go (has_row a.id rows) none
    where
      go : (b : Bool) → (if b || is_empty a.defaults then [] else or_else (request_kinds (action_of a)) (values_fault a a.defaults)) ≡ [] → AllFit c (if b then rows else default_rows a.id (reading_by a) a.defaults rows)
      go true none = fit
      go false none = default_given a a.defaults rows of none fit

  defaults_fit : (xs : List Rule) (rows : List Row) → AreSound c xs → defaults_fault rows xs ≡ [] → AllFit c rows → AllFit c (fold with_default rows xs)
  unfolding defaults_fault
  defaults_fit [] rows sound none fit = fit
  defaults_fit (a ∷ xs) rows sound none fit =
      let parts = both_none (default_fault rows a) (defaults_fault (with_default rows a) xs) none in
      defaults_fit xs (with_default rows a) sound.1 parts.1 (default_fits a rows sound.0.0 parts.0 fit)

-- the rows of a level without a fault fit
pub level_fits : (s : Shape) (words : List Text) → AreSound s.rules s.rules → level_fault s [] nothing_held words false [] ≡ [] → AllFit s.rules (finished s.rules (walk s.rules [] nothing_held words).held)
level_fits s words sound none =
    let end = (walk s.rules [] nothing_held words).held in
    let parts = level_parts s [] nothing_held words false [] none in
    let walked_fit = walk_fits s [] sound (walk_from nothing_held) words parts.walks tt in
    defaults_fit s.rules s.rules (settled s.rules end).rows sound parts.defaults (settled_fits s.rules sound s.args_override_self end parts.settles walked_fit)
