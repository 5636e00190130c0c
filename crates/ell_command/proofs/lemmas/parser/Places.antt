use Rattle.std.proofs.Common.{◌≡◌, ◌∙◌, ◌&&◌, ◌||◌, ◌+◌, ◌==◌, ℕ, Bool, List, Option, Some, None, [], ◌∷◌, refl, sym, ap, ap₂, true, false, zero, suc, not, is_some, map, drop, length, min}
use Rattle.std.specs.Prelude.{if◌then◌else◌, fold, find, option_map, encode_utf8, slice_get}
use Rattle.std.specs.List.{list_any}
use Rattle.std.specs.Option.{option_map_or}
use Rattle.std.specs.Str.{bytes_eq, chars}
use Rattle.clap.specs.Walk.{Held, Names, Outcome, Row, Rule, Step, Text, Waiting, Walk, done, waits, plain, refused, idle, option, positional, next, trailing, subcommand, value}
use Rattle.clap.specs.Walk.{action_of, after_flag, after_step, arg_by_id, arg_by_index, arg_by_long, arg_by_short, attached_value, bundle_met, bundle_step, count_of, default_rows, finished, flag_met, has_long, has_row, has_short, is_empty, is_multiple, is_pending, long_met, long_or_other, most_values, next_position, nothing_held, option_met, option_word, plain_word, pushed, reacted, reading_by, rows_after, settled, settled_rows, short_met, short_or_plain, subcommand_met, subcommand_or_other, takes_several, takes_values, to_positional, used, used_as, used_by_id, values_or_missing, walk, walk_from, walked, walked_from, with_default, word_met}
use Rattle.clap.specs.Lexer.{long_of, short_of}
use Rattle.clap.specs.Matches.{count_text}
use Rattle.clap.specs.Values.{reading_of}
use Rattle.clap.specs.Facts.{explicit_source, parser_of_value, unwrap_or_range}
use Rattle.clap.specs.Takes.{is_given}
use Rattle.clap.specs.Simple.{Shape}
use Rattle.clap.specs.Kinds.{Kinds, check_kinds, or_else, range_kinds, request_kinds, value_kinds}
use Rattle.clap.specs.Faults.{action_fault, bundle_fault, bundle_step_fault, check_fault, count_fault, default_fault, defaults_fault, flag_word_fault, flags_fault, level_fault, long_fault, option_fault, other_fault, positional_fault, react_fault, repeat_fault, settle_fault, short_fault, step_fault, stray_fault, turn_fault, use_fault, values_fault, walk_fault, word_fault}
use Rattle.clap.specs.declared.builder.action.ArgAction.{ArgAction}
use Rattle.clap.specs.declared.builder.action.ArgAction.TheVariants as action
use Rattle.clap.specs.declared.builder.value_parser.ValueParser.{ValueParser}
use Rattle.clap.specs.declared.builder.value_parser.ValueParser.TheVariants as parser
use Rattle.clap.specs.declared.error.kind.ErrorKind.TheVariants as kind
use Rattle.clap.proofs.WalkLemmas.{find-map, list_any-map}
use Rattle.ell_command.specs.CommandLine.{BorrowedNames}

-- ---- a list of rules with its names of values at another place

abbrev moved_parser : BorrowedNames → Option ValueParser → Option ValueParser
moved_parser names (Some (parser.Names old)) = Some (parser.Names names)
moved_parser names p = p

abbrev pub moved : BorrowedNames → Rule → Rule
moved names a = record a { parser = moved_parser names a.parser }

-- the rule takes the same values as before
abbrev pub IsAlike : BorrowedNames → Rule → Type 0
IsAlike names a = (text : Text) → value_kinds a.ignore_case (parser_of_value (moved_parser names a.parser)) text ≡ value_kinds a.ignore_case (parser_of_value a.parser) text

abbrev pub AreAlike : BorrowedNames → List Rule → Type 0
AreAlike names [] = Unit {0}
AreAlike names (a ∷ c) = IsAlike names a × AreAlike names c

abbrev IsAlikeIf : BorrowedNames → Option Rule → Type 0
IsAlikeIf names None = Unit {0}
IsAlikeIf names (Some a) = IsAlike names a

find_alike : (names : BorrowedNames) (p : Rule → Bool) (c : List Rule) → AreAlike names c → IsAlikeIf names (find p c)
find_alike names p [] alike = tt
find_alike names p (a ∷ c) alike = go (p a) (find_alike names p c alike.1)
  where
    go : (b : Bool) → IsAlikeIf names (find p c) → IsAlikeIf names (if b then Some a else find p c)
    go true rest = alike.0
    go false rest = rest

-- ---- what is found

module _ (names : BorrowedNames) where
  by_id : (c : List Rule) (id : Text) → arg_by_id (map (moved names) c) id ≡ option_map (moved names) (arg_by_id c id)
  by_id c id = sym (find-map (λ (a : Rule). bytes_eq a.id id) (moved names) c)

  by_long : (c : List Rule) (name : Text) → arg_by_long (map (moved names) c) name ≡ option_map (moved names) (arg_by_long c name)
  by_long c name = sym (find-map (λ (a : Rule). not (is_some a.index) && has_long a name) (moved names) c)

  by_short : (c : List Rule) (x : ℕ) → arg_by_short (map (moved names) c) x ≡ option_map (moved names) (arg_by_short c x)
  by_short c x = sym (find-map (λ (a : Rule). not (is_some a.index) && has_short a x) (moved names) c)

  by_index : (c : List Rule) (i : ℕ) → arg_by_index (map (moved names) c) i ≡ option_map (moved names) (arg_by_index c i)
  by_index c i = sym (find-map (λ (a : Rule). option_map_or (λ k. k == i) a.index false) (moved names) c)

  reading_moved : (a : Rule) → reading_by (moved names a) ≡ reading_by a
  reading_moved a = go a.parser
    where
      go : (p : Option ValueParser) → reading_of (parser_of_value (moved_parser names p)) ≡ reading_of (parser_of_value p)
      go (Some (parser.Names old)) = refl
      go _ = refl

  missing_moved : (a : Rule) (values : List Text) → values_or_missing (moved names a) values ≡ values_or_missing a values
  missing_moved a [] = refl
  missing_moved a (v ∷ vs) = refl

  used_moved : (a : Rule) (values : List Text) (rows : List Row) → used (moved names a) values rows ≡ used a values rows
  used_moved a values rows = ap₂ (λ how vs. used_as (action_of a) a.id how vs rows) (reading_moved a) (missing_moved a values)

  used_found : (o : Option Rule) (values : List Text) (rows : List Row) → used_by_id (option_map (moved names) o) values rows ≡ used_by_id o values rows
  used_found None values rows = refl
  used_found (Some a) values rows = used_moved a values rows

  -- ---- what is held

  rows_moved : (c : List Rule) (p : Option (Text × List Text)) (rows : List Row) → settled_rows (map (moved names) c) p rows ≡ settled_rows c p rows
  rows_moved c None rows = refl
  rows_moved c (Some p) rows = ap (λ o. used_by_id o p.1 rows) (by_id c p.0) ∙ used_found (arg_by_id c p.0) p.1 rows

  settled_moved : (c : List Rule) (h : Held) → settled (map (moved names) c) h ≡ settled c h
  settled_moved c h = ap (λ rows. record h { rows = rows; pending = None }) (rows_moved c h.pending h.rows)

  reacted_moved : (c : List Rule) (a : Rule) (values : List Text) (h : Held) → reacted (map (moved names) c) (moved names a) values h ≡ reacted c a values h
  reacted_moved c a values h =
      ap (λ rows. record h { rows = rows; pending = None }) (used_moved a values _ ∙ ap (λ (k : Held). used a values k.rows) (settled_moved c h))

  option_moved : (c : List Rule) (a : Rule) (v : Option Text) (h : Held) → option_met (map (moved names) c) (moved names a) v h ≡ option_met c a v h
  option_moved c a (Some v) h = ap (λ (k : Held). (k, done)) (reacted_moved c a (v ∷ []) h)
  option_moved c a None h = ap (λ (k : Held). (record k { pending = Some (a.id, []) }, waits a.id)) (settled_moved c h)

  flag_moved : (c : List Rule) (a : Rule) (v : Option Text) (h : Held) → flag_met (map (moved names) c) (moved names a) v h ≡ flag_met c a v h
  flag_moved c a (Some v) h = refl
  flag_moved c a None h = ap (λ (k : Held). (k, done)) (reacted_moved c a [] h)

  long_found : (c : List Rule) (o : Option Rule) (v : Option Text) (h : Held) → long_met (map (moved names) c) (option_map (moved names) o) v h ≡ long_met c o v h
  long_found c None v h = refl
  long_found c (Some a) v h = ap₂ (λ x y. if takes_values a then x else y) (option_moved c a v h) (flag_moved c a v h)

  long_moved : (c : List Rule) (name : Text) (v : Option Text) (h : Held) → long_met (map (moved names) c) (arg_by_long (map (moved names) c) name) v h ≡ long_met c (arg_by_long c name) v h
  long_moved c name v h = ap (λ o. long_met (map (moved names) c) o v h) (by_long c name) ∙ long_found c (arg_by_long c name) v h

  short_found : (c : List Rule) (o : Option Rule) (rest : Text) (h : Held) (f g : Held → Held × Outcome) → ((k : Held) → f k ≡ g k)
      → short_met (map (moved names) c) (option_map (moved names) o) rest h f ≡ short_met c o rest h g
  short_found c None rest h f g same = refl
  short_found c (Some a) rest h f g same =
      ap₂ (λ x y. if takes_values a then x else y) (option_moved c a (attached_value rest) h) (same _ ∙ ap g (reacted_moved c a [] h))

  bundle_step_moved : (c : List Rule) (o : Option ℕ) (flags : Text) (skip : ℕ) (so_far : Outcome) (h : Held) (f g : Text → ℕ → Outcome → Held → Held × Outcome)
      → ((t : Text) (n : ℕ) (x : Outcome) (k : Held) → f t n x k ≡ g t n x k) → bundle_step (map (moved names) c) o flags skip so_far h f ≡ bundle_step c o flags skip so_far h g
  bundle_step_moved c None flags skip so_far h f g same = refl
  bundle_step_moved c (Some x) flags zero so_far h f g same =
      let rest = drop (length (encode_utf8 x)) flags in
      ap (λ o. short_met (map (moved names) c) o rest h (f rest 0 done)) (by_short c x) ∙ short_found c (arg_by_short c x) rest h (f rest 0 done) (g rest 0 done) (same rest 0 done)
  bundle_step_moved c (Some x) flags (suc skip) so_far h f g same = same _ skip so_far h

  bundle_moved : (c : List Rule) (k : ℕ) (flags : Text) (skip : ℕ) (so_far : Outcome) (h : Held) → bundle_met (map (moved names) c) k flags skip so_far h ≡ bundle_met c k flags skip so_far h
  unfolding bundle_met
  bundle_moved c zero flags skip so_far h = refl
  bundle_moved c (suc k) flags skip so_far h =
      bundle_step_moved c (slice_get (chars flags) 0) flags skip so_far h (bundle_met (map (moved names) c) k) (bundle_met c k) (λ t n x j. bundle_moved c k t n x j)

  option_word_found : (o : Option Rule) (id word : Text) (h : Held) → option_word (option_map (moved names) o) id word h ≡ option_word o id word h
  option_word_found None id word h = refl
  option_word_found (Some a) id word h = refl

  plain_moved : (c : List Rule) (waiting : Waiting) (word : Text) (h : Held) → plain_word (map (moved names) c) waiting word h ≡ plain_word c waiting word h
  plain_moved c idle word h = refl
  plain_moved c positional word h = refl
  plain_moved c (option id) word h =
      ap (λ (p : Held × Waiting). (p.0, next p.1)) (ap (λ o. option_word o id word h) (by_id c id) ∙ option_word_found (arg_by_id c id) id word h)

  after_moved : (c : List Rule) (waiting : Waiting) (word : Text) (h : Held) (o : Outcome) → after_flag (map (moved names) c) waiting word h o ≡ after_flag c waiting word h o
  after_moved c waiting word h done = refl
  after_moved c waiting word h (waits id) = refl
  after_moved c waiting word h plain = plain_moved c waiting word h
  after_moved c waiting word h refused = plain_moved c waiting word h

  after_same : (c : List Rule) (waiting : Waiting) (word : Text) (m n : Held × Outcome) → m ≡ n → after_flag (map (moved names) c) waiting word m.0 m.1 ≡ after_flag c waiting word n.0 n.1
  after_same c waiting word m n same = ap (λ (p : Held × Outcome). after_flag (map (moved names) c) waiting word p.0 p.1) same ∙ after_moved c waiting word n.0 n.1

  short_word_moved : (c : List Rule) (waiting : Waiting) (word : Text) (o : Option Text) (h : Held) → short_or_plain (map (moved names) c) waiting word o h ≡ short_or_plain c waiting word o h
  short_word_moved c waiting word None h = plain_moved c waiting word h
  short_word_moved c waiting word (Some flags) h =
      after_same c waiting word _ _ (bundle_moved c (length flags) flags h.skip plain (record h { skip = 0 }))

  long_word_moved : (c : List Rule) (waiting : Waiting) (word : Text) (o : Option (Text × Option Text)) (h : Held) → long_or_other (map (moved names) c) waiting word o h ≡ long_or_other c waiting word o h
  long_word_moved c waiting word None h = short_word_moved c waiting word (short_of word) h
  long_word_moved c waiting word (Some p) h = after_same c waiting word _ _ (long_moved c p.0 p.1 h)

  other_moved : (c : List Rule) (o : Option Text) (waiting : Waiting) (position : ℕ) (word : Text) (h : Held) → subcommand_or_other (map (moved names) c) o waiting position word h ≡ subcommand_or_other c o waiting position word h
  other_moved c (Some name) waiting position word h = refl
  other_moved c None waiting position word h = ap (λ p. if bytes_eq word (45 ∷ 45 ∷ []) then (h, trailing position) else p) (long_word_moved c waiting word (long_of word) h)

  met_moved : (c : List Rule) (subs : Names) (trails : Bool) (waiting : Waiting) (position : ℕ) (word : Text) (h : Held) → word_met (map (moved names) c) subs trails waiting position word h ≡ word_met c subs trails waiting position word h
  met_moved c subs trails waiting position word h = ap (λ p. if trails then (h, value) else p) (other_moved c (subcommand_met subs waiting word) waiting position word h)

  positional_found : (c : List Rule) (o : Option Rule) (word : Text) (w : Walk) (h : Held) → to_positional (map (moved names) c) (option_map (moved names) o) word w h ≡ to_positional c o word w h
  positional_found c None word w h = refl
  positional_found c (Some a) word w h = ap (λ (k : Held). record {
    held = pushed a.id word (if is_pending a h.pending && takes_several a then h else k);
    waiting = if is_multiple a then positional else idle;
    position = next_position a w.position;
    is_trailing = w.is_trailing || a.trailing_var_arg;
    stopped = None;
  }) (settled_moved c h)

  step_moved : (c : List Rule) (word : Text) (w : Walk) (h : Held) (s : Step) → after_step (map (moved names) c) word w h s ≡ after_step c word w h s
  step_moved c word w h (next waiting) = refl
  step_moved c word w h (trailing position) = refl
  step_moved c word w h (subcommand name) = refl
  step_moved c word w h value =
      ap (λ o. to_positional (map (moved names) c) o word w h) (by_index c w.position) ∙ positional_found c (arg_by_index c w.position) word w h

  from_moved : (c : List Rule) (subs : Names) (stop : Option (Text × List Text)) (w : Walk) (word : Text) → walked_from (map (moved names) c) subs stop w word ≡ walked_from c subs stop w word
  from_moved c subs (Some p) w word = refl
  from_moved c subs None w word =
      let met = word_met c subs w.is_trailing w.waiting w.position word w.held in
      ap (λ (p : Held × Step). after_step (map (moved names) c) word w p.0 p.1) (met_moved c subs w.is_trailing w.waiting w.position word w.held) ∙ step_moved c word w met.0 met.1

  walked_moved : (c : List Rule) (subs : Names) (w : Walk) (word : Text) → walked (map (moved names) c) subs w word ≡ walked c subs w word
  unfolding walked
  walked_moved c subs w word = from_moved c subs w.stopped w word

  fold_moved : (c : List Rule) (subs : Names) (w : Walk) (words : List Text) → fold (walked (map (moved names) c) subs) w words ≡ fold (walked c subs) w words
  fold_moved c subs w [] = refl
  fold_moved c subs w (x ∷ xs) = ap (λ v. fold (walked (map (moved names) c) subs) v xs) (walked_moved c subs w x) ∙ fold_moved c subs (walked c subs w x) xs

  with_default_moved : (rows : List Row) (a : Rule) → with_default rows (moved names a) ≡ with_default rows a
  with_default_moved rows a = ap (λ how. if has_row a.id rows then rows else default_rows a.id how a.defaults rows) (reading_moved a)

  defaults_moved : (rows : List Row) (c : List Rule) → fold with_default rows (map (moved names) c) ≡ fold with_default rows c
  defaults_moved rows [] = refl
  defaults_moved rows (a ∷ c) = ap (λ rs. fold with_default rs (map (moved names) c)) (with_default_moved rows a) ∙ defaults_moved (with_default rows a) c

  finished_moved : (c : List Rule) (h : Held) → finished (map (moved names) c) h ≡ finished c h
  finished_moved c h = ap (λ (k : Held). fold with_default k.rows (map (moved names) c)) (settled_moved c h) ∙ defaults_moved (settled c h).rows c

  -- the rows at the end
  pub rows_after_moved : (c : List Rule) (subs : Names) (words : List Text) → rows_after (map (moved names) c) subs words ≡ rows_after c subs words
  rows_after_moved c subs words =
      ap (λ (w : Walk). finished (map (moved names) c) w.held) (fold_moved c subs (walk_from nothing_held) words) ∙ finished_moved c (walk c subs nothing_held words).held

  -- ---- faults

  values_alike : (a : Rule) (values : List Text) → IsAlike names a → values_fault (moved names a) values ≡ values_fault a values
  values_alike a [] alike = refl
  values_alike a (v ∷ vs) alike = ap₂ or_else (alike v) (values_alike a vs alike)

  count_alike : (a : Rule) (values : List Text) (rows : List Row) → IsAlike names a → count_fault (moved names a) values rows ≡ count_fault a values rows
  count_alike a [] rows alike = alike (count_text (min (count_of a.id rows + 1) 255))
  count_alike a (v ∷ vs) rows alike = values_alike a (v ∷ vs) alike

  action_alike : (x : ArgAction) (again : Bool) (a : Rule) (values : List Text) (rows : List Row) → IsAlike names a → action_fault x again (moved names a) values rows ≡ action_fault x again a values rows
  action_alike action.Set again a values rows alike = ap (or_else (repeat_fault again a.id rows)) (values_alike a values alike)
  action_alike action.SetTrue again a values rows alike = ap (or_else (repeat_fault again a.id rows)) (values_alike a values alike)
  action_alike action.SetFalse again a values rows alike = ap (or_else (repeat_fault again a.id rows)) (values_alike a values alike)
  action_alike action.Append again a values rows alike = values_alike a values alike
  action_alike action.Count again a values rows alike = count_alike a values rows alike
  action_alike _ again a values rows alike = refl

  use_alike : (again : Bool) (a : Rule) (values : List Text) (rows : List Row) → IsAlike names a → use_fault again (moved names a) values rows ≡ use_fault again a values rows
  use_alike again a values rows alike =
      ap (or_else (range_kinds (unwrap_or_range a.range).start_inclusive (most_values a) (length values)))
      (ap (λ vs. action_fault (action_of a) again (moved names a) vs rows) (missing_moved a values) ∙ action_alike (action_of a) again a (values_or_missing a values) rows alike)

  use_found : (again : Bool) (o : Option Rule) (values : List Text) (rows : List Row) → IsAlikeIf names o
      → option_map_or (λ a. use_fault again a values rows) (option_map (moved names) o) [] ≡ option_map_or (λ a. use_fault again a values rows) o []
  use_found again None values rows alike = refl
  use_found again (Some a) values rows alike = use_alike again a values rows alike

  settle_alike : (c : List Rule) (again : Bool) (h : Held) → AreAlike names c → settle_fault (map (moved names) c) again h ≡ settle_fault c again h
  settle_alike c again h alike = go h.pending
    where
      go : (o : Option (Text × List Text)) → option_map_or (λ p. option_map_or (λ a. use_fault again a p.1 h.rows) (arg_by_id (map (moved names) c) p.0) []) o []
          ≡ option_map_or (λ p. option_map_or (λ a. use_fault again a p.1 h.rows) (arg_by_id c p.0) []) o []
      go None = refl
      go (Some p) =
          ap (λ o. option_map_or (λ a. use_fault again a p.1 h.rows) o []) (by_id c p.0)
          ∙ use_found again (arg_by_id c p.0) p.1 h.rows (find_alike names (λ a. bytes_eq a.id p.0) c alike)

  react_alike : (c : List Rule) (again : Bool) (a : Rule) (values : List Text) (h : Held) → AreAlike names c → IsAlike names a → react_fault (map (moved names) c) again (moved names a) values h ≡ react_fault c again a values h
  react_alike c again a values h alike one =
      ap₂ or_else (settle_alike c again h alike)
      (ap (λ (k : Held). use_fault again (moved names a) values k.rows) (settled_moved c h) ∙ use_alike again a values (settled c h).rows one)

  option_alike : (c : List Rule) (again : Bool) (a : Rule) (v : Option Text) (h : Held) → AreAlike names c → IsAlike names a → option_fault (map (moved names) c) again (moved names a) v h ≡ option_fault c again a v h
  option_alike c again a (Some v) h alike one = react_alike c again a (v ∷ []) h alike one
  option_alike c again a None h alike one = settle_alike c again h alike

  long_alike : (c : List Rule) (again : Bool) (o : Option Rule) (v : Option Text) (h : Held) → AreAlike names c → IsAlikeIf names o → long_fault (map (moved names) c) again (option_map (moved names) o) v h ≡ long_fault c again o v h
  long_alike c again None v h alike one = refl
  long_alike c again (Some a) v h alike one =
      ap₂ (λ x y. if takes_values a then x else (if is_some v then kind.TooManyValues ∷ [] else y)) (option_alike c again a v h alike one) (react_alike c again a [] h alike one)

  short_alike : (c : List Rule) (again : Bool) (o : Option Rule) (rest : Text) (h : Held) (f g : Held → Kinds) → AreAlike names c → IsAlikeIf names o → ((k : Held) → f k ≡ g k)
      → short_fault (map (moved names) c) again (option_map (moved names) o) rest h f ≡ short_fault c again o rest h g
  short_alike c again None rest h f g alike one same = refl
  short_alike c again (Some a) rest h f g alike one same =
      ap₂ (λ x y. if takes_values a then x else y) (option_alike c again a (attached_value rest) h alike one)
      (ap₂ or_else (react_alike c again a [] h alike one) (same _ ∙ ap g (reacted_moved c a [] h)))

  bundle_step_alike : (c : List Rule) (again : Bool) (o : Option ℕ) (flags : Text) (skip : ℕ) (h : Held) (f g : Text → ℕ → Held → Kinds) → AreAlike names c
      → ((t : Text) (n : ℕ) (k : Held) → f t n k ≡ g t n k) → bundle_step_fault (map (moved names) c) again o flags skip h f ≡ bundle_step_fault c again o flags skip h g
  bundle_step_alike c again None flags skip h f g alike same = refl
  bundle_step_alike c again (Some x) flags zero h f g alike same =
      let rest = drop (length (encode_utf8 x)) flags in
      ap (λ o. short_fault (map (moved names) c) again o rest h (f rest 0)) (by_short c x)
      ∙ short_alike c again (arg_by_short c x) rest h (f rest 0) (g rest 0) alike (find_alike names (λ a. not (is_some a.index) && has_short a x) c alike) (same rest 0)
  bundle_step_alike c again (Some x) flags (suc skip) h f g alike same = same _ skip h

  flags_alike : (c : List Rule) (again : Bool) (k : ℕ) (flags : Text) (skip : ℕ) (h : Held) → AreAlike names c → flags_fault (map (moved names) c) again k flags skip h ≡ flags_fault c again k flags skip h
  unfolding flags_fault
  flags_alike c again zero flags skip h alike = refl
  flags_alike c again (suc k) flags skip h alike =
      bundle_step_alike c again (slice_get (chars flags) 0) flags skip h (flags_fault (map (moved names) c) again k) (flags_fault c again k) alike (λ t n j. flags_alike c again k t n j alike)

  flag_word_alike : (c : List Rule) (again : Bool) (o : Option (Text × Option Text)) (word : Text) (h : Held) → AreAlike names c → flag_word_fault (map (moved names) c) again o word h ≡ flag_word_fault c again o word h
  flag_word_alike c again (Some p) word h alike =
      ap (λ o. long_fault (map (moved names) c) again o p.1 h) (by_long c p.0)
      ∙ long_alike c again (arg_by_long c p.0) p.1 h alike (find_alike names (λ a. not (is_some a.index) && has_long a p.0) c alike)
  flag_word_alike c again None word h alike = go (short_of word)
    where
      go : (o : Option Text) → option_map_or (λ flags. bundle_fault (map (moved names) c) again flags h) o [] ≡ option_map_or (λ flags. bundle_fault c again flags h) o []
      go None = refl
      go (Some flags) = flags_alike c again (length flags) flags h.skip (record h { skip = 0 }) alike

  abbrev at_names : Shape → Shape
  at_names s = record s { rules = map (moved names) s.rules }

  other_alike : (s : Shape) (o : Option Text) (word : Text) (h : Held) → AreAlike names s.rules → other_fault (at_names s) o word h ≡ other_fault s o word h
  other_alike s (Some name) word h alike = refl
  other_alike s None word h alike = ap (λ x. if bytes_eq word (45 ∷ 45 ∷ []) then [] else x) (flag_word_alike s.rules s.args_override_self (long_of word) word h alike)

  word_alike : (s : Shape) (subs : Names) (trails : Bool) (waiting : Waiting) (word : Text) (h : Held) → AreAlike names s.rules → word_fault (at_names s) subs trails waiting word h ≡ word_fault s subs trails waiting word h
  word_alike s subs trails waiting word h alike = ap (λ x. if trails then [] else x) (other_alike s (subcommand_met subs waiting word) word h alike)

  step_found : (s : Shape) (o : Option Rule) (h : Held) → AreAlike names s.rules
      → option_map_or (λ a. positional_fault (at_names s).rules s.args_override_self a h) (option_map (moved names) o) (stray_fault s)
      ≡ option_map_or (λ a. positional_fault s.rules s.args_override_self a h) o (stray_fault s)
  step_found s None h alike = refl
  step_found s (Some a) h alike = ap (λ x. if is_pending a h.pending && takes_several a then [] else x) (settle_alike s.rules s.args_override_self h alike)

  step_alike : (s : Shape) (position : ℕ) (h : Held) (step : Step) → AreAlike names s.rules → step_fault (at_names s) position h step ≡ step_fault s position h step
  step_alike s position h value alike =
      ap (λ o. option_map_or (λ a. positional_fault (at_names s).rules s.args_override_self a h) o (stray_fault s)) (by_index s.rules position)
      ∙ step_found s (arg_by_index s.rules position) h alike
  step_alike s position h _ alike = refl

  turn_alike : (s : Shape) (subs : Names) (w : Walk) (word : Text) → AreAlike names s.rules → turn_fault (at_names s) subs w word ≡ turn_fault s subs w word
  turn_alike s subs w word alike =
      let met = word_met s.rules subs w.is_trailing w.waiting w.position word w.held in
      ap₂ (λ x y. if is_some w.stopped then [] else or_else x y) (word_alike s subs w.is_trailing w.waiting word w.held alike)
      (ap (λ (p : Held × Step). step_fault (at_names s) w.position p.0 p.1) (met_moved s.rules subs w.is_trailing w.waiting w.position word w.held)
      ∙ step_alike s w.position met.0 met.1 alike)

  walk_alike : (s : Shape) (subs : Names) (w : Walk) (words : List Text) → AreAlike names s.rules → walk_fault (at_names s) subs w words ≡ walk_fault s subs w words
  unfolding walk_fault
  walk_alike s subs w [] alike = refl
  walk_alike s subs w (x ∷ xs) alike =
      ap₂ or_else (turn_alike s subs w x alike)
      (ap (λ v. walk_fault (at_names s) subs v xs) (walked_moved s.rules subs w x) ∙ walk_alike s subs (walked s.rules subs w x) xs alike)

  default_alike : (rows : List Row) (a : Rule) → IsAlike names a → default_fault rows (moved names a) ≡ default_fault rows a
  default_alike rows a alike = ap (λ x. if has_row a.id rows || is_empty a.defaults then [] else or_else (request_kinds (action_of a)) x) (values_alike a a.defaults alike)

  defaults_alike : (rows : List Row) (c : List Rule) → AreAlike names c → defaults_fault rows (map (moved names) c) ≡ defaults_fault rows c
  unfolding defaults_fault
  defaults_alike rows [] alike = refl
  defaults_alike rows (a ∷ c) alike =
      ap₂ or_else (default_alike rows a alike.0)
      (ap (λ rs. defaults_fault rs (map (moved names) c)) (with_default_moved rows a) ∙ defaults_alike (with_default rows a) c alike.1)

  check_alike : (s : Shape) (rows : List Row) (has : Bool) → check_fault (at_names s) rows has ≡ check_fault s rows has
  check_alike s rows has = ap (λ missing. check_kinds (not has && (s.arg_required_else_help && not (list_any (λ (r : Row). explicit_source r.source) rows))) (not has && s.subcommand_required) (not (s.subcommand_negates_reqs && has) && missing))
      (sym (list_any-map (λ (a : Rule). a.required && not (is_given a.id rows)) (moved names) s.rules))

  -- the errors of one level
  pub level_alike : (s : Shape) (subs : Names) (h : Held) (words : List Text) (has : Bool) (below : Kinds) → AreAlike names s.rules
      → level_fault (at_names s) subs h words has below ≡ level_fault s subs h words has below
  level_alike s subs h words has below alike =
      let end = (walk s.rules subs h words).held in
      ap₂ or_else (walk_alike s subs (walk_from h) words alike)
      (ap (or_else below)
      (ap (λ (w : Walk). or_else (settle_fault (at_names s).rules s.args_override_self w.held) (or_else (defaults_fault (settled (at_names s).rules w.held).rows (at_names s).rules) (check_fault (at_names s) (finished (at_names s).rules w.held) has)))
      (fold_moved s.rules subs (walk_from h) words)
      ∙ ap₂ or_else (settle_alike s.rules s.args_override_self end alike)
      (ap₂ or_else (ap (λ (k : Held). defaults_fault k.rows (at_names s).rules) (settled_moved s.rules end) ∙ defaults_alike (settled s.rules end).rows s.rules alike)
      (ap (λ rows. check_fault (at_names s) rows has) (finished_moved s.rules end) ∙ check_alike s (finished s.rules end) has))))
