use Rattle.std.proofs.Common.{◌≡◌, Bool, List, [], ◌∷◌, refl}
use Rattle.clap.specs.Walk.{Held, Names, Text}
use Rattle.clap.specs.Walk.{finished, settled, walk, walk_from}
use Rattle.clap.specs.Simple.{Shape}
use Rattle.clap.specs.Kinds.{Kinds, or_else}
use Rattle.clap.specs.Faults.{check_fault, defaults_fault, level_fault, settle_fault, walk_fault}

-- a first step without a fault, and no fault after it
pub both_none : (a b : Kinds) → or_else a b ≡ [] → (a ≡ []) × (b ≡ [])
both_none [] b none = (refl, none)
both_none (k ∷ ks) b none = absurd (cc)

-- a level without a fault: its walk has none, and neither have what is pending behind it, the defaults, the checks and the level below
pub record LevelParts (s : Shape) (names : Names) (h : Held) (words : List Text) (has : Bool) (below : Kinds) : Type 0 where
  pub walks : walk_fault s names (walk_from h) words ≡ []
  pub nothing_below : below ≡ []
  pub settles : settle_fault s.rules s.args_override_self (walk s.rules names h words).held ≡ []
  pub defaults : defaults_fault (settled s.rules (walk s.rules names h words).held).rows s.rules ≡ []
  pub checks : check_fault s (finished s.rules (walk s.rules names h words).held) has ≡ []

pub level_parts : (s : Shape) (names : Names) (h : Held) (words : List Text) (has : Bool) (below : Kinds) → level_fault s names h words has below ≡ []
    → LevelParts s names h words has below
level_parts s names h words has below none =
    let end = (walk s.rules names h words).held in
    let checks = check_fault s (finished s.rules end) has in
    let defaults = defaults_fault (settled s.rules end).rows s.rules in
    let pending = settle_fault s.rules s.args_override_self end in
    let walk_none = both_none (walk_fault s names (walk_from h) words) (or_else below (or_else pending (or_else defaults checks))) none in
    let below_none = both_none below (or_else pending (or_else defaults checks)) walk_none.1 in
    let pending_none = both_none pending (or_else defaults checks) below_none.1 in
    let defaults_none = both_none defaults checks pending_none.1 in
    record {
      walks = walk_none.0;
      nothing_below = below_none.0;
      settles = pending_none.0;
      defaults = defaults_none.0;
      checks = defaults_none.1;
    }
