use Rattle.std.proofs.Common.{◌≡◌, ℕ, Bool, true, false, Option, Some, None, List, [], ◌++◌, refl, sym, ap, ◌∙◌, subst}
use Rattle.ell_ops.specs.declared.op.Op.{Op}
use Rattle.ell_ops.specs.declared.op.Op.TheVariants.{Find, Insert, Delete, Swap}
use Rattle.ell_word.specs.Word.{unpacked}
use Rattle.ell_core.specs.declared.view.Seen.{Seen}
use Rattle.ell_layout.specs.Words.{Words}
use Rattle.ell_core.specs.state.Machine.{Worker, worker_of}
use Rattle.ell_core.specs.acts.Searching.{IsClean}
use Rattle.ell_core.specs.history.Stages.{Stages}
use Rattle.ell_core.specs.history.Invariant.{InsertInHand, DeleteInHand, WordsAreSound, WorkerIsSound}
use Rattle.ell_core.proofs.lemmas.outcomes.Decide.{some_not_none}
use Rattle.ell_runs.specs.declared.view.Hindrance.{Hindrance}
use Rattle.ell_runs.specs.declared.view.View.{View}
use Rattle.ell_runs.specs.Changes.{unless_clean, read_in_way, first_in_way, in_the_way, way_now}

-- what was in the way of the try in hand, once it is given up
abbrev pub met_in_try : View → List Hindrance
met_in_try v = way_now v ++ v.met

-- what a search that stands nowhere has read in the way
nowhere_way : (op : Op) (parent above : Option Seen) → in_the_way (Some op) None parent above ≡ []
nowhere_way (Find k) parent above = refl
nowhere_way (Insert k value) parent above = refl
nowhere_way (Delete k) parent above = refl
nowhere_way (Swap k was value) parent above = refl

-- what was read clean is not in the way
clean_read : (seen : Seen) → IsClean seen.word → read_in_way (Some seen) ≡ []
clean_read seen calm = ap (λ s. unless_clean s (unpacked seen.word).card) calm

clean_way : (k x : ℕ) (parent above : Seen) → IsClean parent.word → IsClean above.word → in_the_way (Some (Delete k)) (Some x) (Some parent) (Some above) ≡ []
clean_way k x parent above calm top = ap (λ hs. first_in_way hs (read_in_way (Some parent))) (clean_read above top) ∙ clean_read parent calm

-- nor is what a pass with a card in hand has read, wherever its search stands
pub hand_way : (w : Words) (stage : Stages) (v : View) → WordsAreSound w stage → WorkerIsSound w stage (worker_of v.worker) → (c : ℕ) → v.worker.card ≡ Some c → way_now v ≡ []
hand_way w stage v words sound c has = by v.worker.operation refl v.worker.flagged refl
  where
    -- what is in the way of an operation, by what the search is
    is : (o : Option Op) (place : Option ℕ) (parent above : Option Seen) → v.worker.operation ≡ o → v.worker.search.node ≡ place → v.worker.search.parent ≡ parent
        → v.worker.search.grandparent ≡ above → in_the_way o place parent above ≡ [] → way_now v ≡ []
    is o place parent above e f g h none = (λ t. in_the_way (e t) (f t) (g t) (h t)) ∙ none

    inserts : (k value : ℕ) → v.worker.operation ≡ Some (Insert k value) → InsertInHand w stage (worker_of v.worker) (record { key = k; value = value; was = None }) c → way_now v ≡ []
    inserts k value e h = is (Some (Insert k value)) (Some (w.l c)) (Some h.parent) v.worker.search.grandparent e h.stands h.behind refl (clean_read h.parent h.calm)

    swaps : (k was value : ℕ) → v.worker.operation ≡ Some (Swap k was value) → InsertInHand w stage (worker_of v.worker) (record { key = k; value = value; was = Some was }) c → way_now v ≡ []
    swaps k was value e h = is (Some (Swap k was value)) (Some (w.l c)) (Some h.parent) v.worker.search.grandparent e h.stands h.behind refl (clean_read h.parent h.calm)

    deletes : (k : ℕ) → v.worker.operation ≡ Some (Delete k) → DeleteInHand w stage (worker_of v.worker) k c → way_now v ≡ []
    deletes k e h = is (Some (Delete k)) (Some (w.l c)) (Some h.parent) (Some h.grandparent) e h.stands h.behind h.above
        (clean_way k (w.l c) h.parent h.grandparent (subst IsClean (sym h.was) ((words.cards c).delete h.claimed.0).calm) h.calm)

    by : (o : Option Op) → v.worker.operation ≡ o → (b : Bool) → v.worker.flagged ≡ b → way_now v ≡ []
    by None e b flagged = absurd (some_not_none has (ap (λ (z : Worker). z.card) (sound.free e)))
    by (Some op) e true flagged =
        is (Some op) None v.worker.search.parent v.worker.search.grandparent e (sound.flagged op c e has flagged).1 refl refl
        (nowhere_way op v.worker.search.parent v.worker.search.grandparent)
    by (Some (Find k)) e false flagged = absurd (sound.unflagged (Find k) c e has flagged)
    by (Some (Insert k value)) e false flagged = inserts k value e (sound.unflagged (Insert k value) c e has flagged)
    by (Some (Swap k was value)) e false flagged = swaps k was value e (sound.unflagged (Swap k was value) c e has flagged)
    by (Some (Delete k)) e false flagged = deletes k e (sound.unflagged (Delete k) c e has flagged)
