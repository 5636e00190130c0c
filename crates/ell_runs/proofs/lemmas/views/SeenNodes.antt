use Rattle.std.proofs.Common.{◌≡◌, ◌==◌, ℕ, if◌then◌else◌, true, Option, Some, None, unwrap_or, eq-eqb}
use Rattle.ell_ops.specs.declared.op.Op.{Op}
use Rattle.ell_core.specs.declared.view.Seen.{Seen}
use Rattle.ell_runs.specs.declared.view.View.{View}
use Rattle.ell_runs.specs.Views.{Does, StandsAt}
use Rattle.ell_runs.specs.Changes.{is_this, value_told, filling_for, filling_of}
use Rattle.ell_runs.specs.declared.call.NewNode.{NewNode}

-- a node with the word that was read there, if one was, and the tag of a child word
abbrev pub seen_at : ℕ → Option ℕ → ℕ → Option Seen
seen_at x read tag = Some (record { node = x; word = unwrap_or read 0; tag = tag })

-- the key that was asked at the node where the pass stands is the key there
pub told_here : (o here : Option ℕ) (x key : ℕ) → o ≡ Some x → (if is_this o x then Some key else here) ≡ Some key
told_here None here x key e = cc
told_here (Some y) here x key e =
    let same : (y == x) ≡ true = eq-eqb y x (cc) in rw same

-- what fills a card, by a search that ended at a node of this key
pub filling_at : (v : View) (op : Op) (c : ℕ) (node : NewNode) (below key : ℕ) (parent : Seen) (above : Option Seen) → Does v op → StandsAt v below → v.here ≡ Some key
    → v.worker.search.parent ≡ Some parent → v.worker.search.grandparent ≡ above
    → filling_of c node v ≡ filling_for c node (Some op) (Some below) (Some parent) above key (value_told v.told)
filling_at v op c node below key parent above busy stands told behind grandparent =
    λ t. filling_for c node (busy t) (stands t) (behind t) (grandparent t) (unwrap_or (told t) 0) (value_told v.told)
