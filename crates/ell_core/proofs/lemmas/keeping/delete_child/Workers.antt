use Rattle.std.proofs.Common.{◌≡◌, ℕ, Some, inr, refl, sym, ap, ◌∙◌}
use Rattle.std.proofs.lemmas.Bool.{false≢true}
use Rattle.ell_ops.specs.declared.op.Op.{Op}
use Rattle.ell_ops.specs.declared.op.Op.TheVariants.{Find, Insert, Delete, Swap}
use Rattle.ell_ops.specs.Meaning.{key_of}
use Rattle.ell_layout.specs.Words.{Words}
use Rattle.ell_core.specs.state.Machine.{Worker, Machine}
use Rattle.ell_core.specs.history.Stages.{Stages, DMarked, DCut, insert_won, delete_won, delete_open, made_by_stage}
use Rattle.ell_core.specs.history.Invariant.{delete_key, Flagged, WorkersAreSound, Invariant}
use Rattle.ell_core.proofs.lemmas.tree.Reached.{leads_any}
use Rattle.ell_core.proofs.lemmas.keeping.going_on.OneKey.{settled_workers}
use Rattle.ell_core.proofs.lemmas.keeping.delete_child.Tree.{cut_words, CutsAt, CutTree}
use Rattle.ell_core.proofs.lemmas.keeping.delete_child.Stages.{cut_stages}
use Rattle.ell_core.proofs.lemmas.keeping.delete_child.Words.{cut_goes_on}
use Rattle.ell_core.specs.declared.view.Entry.TheVariants.{Absent}

-- a marked card in hand is a delete's of the card's key
marked_own : (w : Words) (stage : Stages) (c : ℕ) → stage c ≡ DMarked → (v : Worker) (op : Op) → Flagged w stage v op c
    → (key_of op ≡ delete_key w c) × (made_by_stage op DCut ≡ Some Absent)
marked_own w stage c now v (Find k) h = absurd h
marked_own w stage c now v (Insert k value) h = absurd (false≢true (ap insert_won (sym now) ∙ h.0))
marked_own w stage c now v (Swap k was value) h = absurd (false≢true (ap insert_won (sym now) ∙ h.0))
marked_own w stage c now v (Delete k) h = (sym h.1, refl)

-- the workers are sound after the exchange, which settles the card's key as absent
pub cut_workers_sound : (m : Machine) (stage : Stages) → Invariant m stage → (c : ℕ) (now : stage c ≡ DMarked)
    (at : CutsAt m.words stage c) → CutTree m.words stage c → WorkersAreSound (record m { words = cut_words m.words c }) (cut_stages stage c)
cut_workers_sound m stage sound c now at tree =
    settled_workers m stage (cut_words m.words c) c DCut (delete_key m.words c) Absent sound.workers (record {
      goes = cut_goes_on m.words stage sound.words c now at tree;
      hand = sound.workers.delete_in_hand c (ap delete_open now);
      won = inr (ap delete_won now);
      own = marked_own m.words stage c now;
      leads = tree.leads;
      led = λ value. (
        λ l. absurd (tree.gone (leads_any (cut_words m.words c) (delete_key m.words c) value 0 l)),
        λ e. absurd cc,
      );
      inserts = λ e. absurd cc;
      deletes = λ e. ap delete_open now;
    })
