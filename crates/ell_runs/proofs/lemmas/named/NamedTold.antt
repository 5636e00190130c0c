-- What a pass was told, by names: depths, facts, and what was in its way.
use Rattle.std.proofs.Common.{◌≡◌, ℕ, ◌++◌, if◌then◌else◌, max, map, Bool, true, false, Option, Some, None, List, [], ◌∷◌, refl}
use Rattle.std.specs.Option.{option_map}
use Rattle.ell_word.specs.declared.update.State.{State}
use Rattle.ell_word.specs.declared.update.State.TheVariants as state
use Rattle.ell_core.specs.declared.exchange.Exchange.{Exchange}
use Rattle.ell_core.specs.declared.fact.Fact.{Fact}
use Rattle.ell_runs.specs.declared.view.Told.{Told}
use Rattle.ell_runs.specs.declared.view.Told.TheVariants.{Met, Depth, Key, Value, Info, Expects, Frozen}
use Rattle.ell_runs.specs.Depths.{depth_told}
use Rattle.ell_runs.specs.Changes.{facts_by, places_by, is_this, is_mark_of, if_won}
use Rattle.ell_runs.specs.Named.{IsNaming, named_node, named_fact, named_told, named_win}
use Rattle.ell_runs.proofs.lemmas.named.NamedWords.{nodes_alike, cards_alike}

-- the facts with the one that an update tells of its card
pub facts_named : (name : ℕ → ℕ) (s : State) (c : ℕ) (facts : List Fact)
    → map (named_fact name) (facts_by s c facts) ≡ facts_by s (name c) (map (named_fact name) facts)
facts_named name state.IFlag c facts = refl
facts_named name state.DFlag c facts = refl
facts_named name state.Mark c facts = refl
facts_named name state.Clean c facts = refl

-- what was told with where the card of an update goes
pub places_named : (name : ℕ → ℕ) (x : ℕ) (s : State) (c : ℕ) (told : List Told)
    → map (named_told name) (places_by x s c told) ≡ places_by (named_node name x) s (name c) (map (named_told name) told)
places_named name x state.IFlag c told = refl
places_named name x state.DFlag c told = refl
places_named name x state.Mark c told = refl
places_named name x state.Clean c told = refl

-- the exchanges with one more, if that was won
pub won_named : (name : ℕ → ℕ) (won : Bool) (k : Exchange) (c : ℕ) (wins : List (Exchange × ℕ))
    → map (named_win name) (if_won won k c ++ wins) ≡ if_won won k (name c) ++ map (named_win name) wins
won_named name true k c wins = refl
won_named name false k c wins = refl

module _ (name : ℕ → ℕ) (naming : IsNaming name) where
  -- how deep a node is, by what was told
  pub depth_named : (told : List Told) (x : ℕ) → depth_told (map (named_told name) told) (named_node name x) ≡ depth_told told x
  depth_named [] x = refl
  depth_named (Depth y d ∷ told) x = λ t. if nodes_alike name naming y x t then max d (depth_named told x t) else depth_named told x t
  depth_named (Met y ∷ told) x = depth_named told x
  depth_named (Key y n ∷ told) x = depth_named told x
  depth_named (Value y n ∷ told) x = depth_named told x
  depth_named (Info c f y ∷ told) x = depth_named told x
  depth_named (Expects c tag ∷ told) x = depth_named told x
  depth_named (Frozen c right y ∷ told) x = depth_named told x

  -- whether a card is in hand
  pub this_named : (o : Option ℕ) (c : ℕ) → is_this (option_map name o) (name c) ≡ is_this o c
  this_named None c = refl
  this_named (Some d) c = cards_alike name naming d c

  -- whether an update is the mark of a card
  pub mark_of_named : (c : ℕ) (s : State) (d : ℕ) → is_mark_of (name c) s (name d) ≡ is_mark_of c s d
  mark_of_named c state.Mark d = cards_alike name naming d c
  mark_of_named c state.IFlag d = refl
  mark_of_named c state.DFlag d = refl
  mark_of_named c state.Clean d = refl
