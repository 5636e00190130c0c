use Rattle.std.specs.Prelude.{◌≡◌, ℕ, ◌<◌, true, Some, List, [], ◌∷◌, take, IsPermutation}
use mathlib.Core.Option.{some}
use lib.ListN.{get_elem?}
use Rattle.ell_ops.specs.declared.op.Op.{Op}
use Rattle.ell_ops.specs.declared.reply.Reply.{Reply}
use Rattle.ell_ops.specs.Contents.{Contents, contents_of}
use Rattle.ell_ops.specs.Meaning.{final, key_of, replies}
use Rattle.ell_runs.specs.declared.view.Act.{Act}
use Rattle.ell_runs.specs.declared.view.Sight.{Sight}
use Rattle.ell_runs.specs.declared.view.View.{View}
use Rattle.ell_runs.specs.Views.{IsFree, whole_share}
use Rattle.ell_runs.specs.Plans.{TablePlan}
use Rattle.ell_runs.specs.Seeing.{HasSeenAll}

-- the operations of calls, and their answers
abbrev pub ops_by : List Act → List Op
ops_by [] = []
ops_by (a ∷ acts) = a.op ∷ ops_by acts

abbrev pub said_by : List Act → List Reply
said_by [] = []
said_by (a ∷ acts) = a.said ∷ said_by acts

-- One thread that makes the calls of a pass in some order, where the map has these contents first, gets their answers,
-- and takes what they took. The order has each call once, and no other; and a call that had ended before another one
-- began stands before it.
pub record IsOfOneThread (start : Contents) (mine : List Act) : Type 0 where
  pub order : List Act
  pub same : IsPermutation mine order
  pub says : said_by order ≡ replies start (ops_by order)
  pub keeps : (i j : ℕ) (a b : Act) → get_elem? order i ≡ some a → get_elem? order j ≡ some b → a.end < b.begin → i < j
  pub takes : (i : ℕ) (a : Act) (value : ℕ) → get_elem? order i ≡ some a → a.took ≡ Some value
      → final start (ops_by (take i order)) (key_of a.op) ≡ Some value

-- so it is of each pass that has seen all of its tree's history, and has the whole share of a tree that shares its keys
abbrev pub StoriesAreOfOneThread : Type 0
StoriesAreOfOneThread =
    (plan : TablePlan) (v : View) (g : Sight) → HasSeenAll plan v g → plan.shared ≡ true → v.share ≡ whole_share → IsFree v
    → IsOfOneThread (contents_of plan.start) g.mine
