use Rattle.std.proofs.Common.{◌≡◌, ℕ, ◌%◌, true, [], ◌∷◌, ◌++◌, Some, inl, inr, refl, sym, ap, ◌∙◌, subst, arith}
use Rattle.std.proofs.lemmas.Bool.{cases_eq, false≢true}
use Rattle.std.proofs.lemmas.Bool.Decides.{nat_tests}
use Rattle.ell_word.specs.Node.{card}
use Rattle.ell_core.specs.declared.exchange.Exchange.{Exchange}
use Rattle.ell_ops.specs.declared.op.Op.{Op}
use Rattle.ell_ops.specs.declared.op.Op.TheVariants.{Find, Insert, Delete, Swap}
use Rattle.ell_core.specs.declared.fact.Fact.{Fact}
use Rattle.ell_layout.specs.Words.{put}
use Rattle.ell_core.specs.history.Stages.{Stage, Stages, IClaimed, IFlagged, IChanged, IOver, RChanged, ROver, DClaimed, DFlagged, DUnmarkable, DMarked, DCut, DOver, DBacked, is_claimed, is_start, is_insert, is_delete, is_node_born, made_by_stage, allows}
use Rattle.ell_core.specs.history.Later.{StagesLater, wins_of}
use Rattle.ell_core.specs.acts.Wins.{win_for}
use Rattle.ell_layout.proofs.lemmas.Writes.{put_cases}

-- stages that did not change are later
pub stages_same : (stage : Stages) → StagesLater stage stage
stages_same stage = record { start = λ c. refl; insert = λ c h. h; delete = λ c h. h; born = λ x h. h; told = λ fact c h. h }

-- a stage follows another: same kind, born if that was, and allows what that allowed
pub record StageLater (old new : Stage) : Type 0 where
  pub start : is_start new ≡ is_start old
  pub insert : is_insert old ≡ true → is_insert new ≡ true
  pub delete : is_delete old ≡ true → is_delete new ≡ true
  pub born : (place : ℕ) → is_node_born old place ≡ true → is_node_born new place ≡ true
  pub told : (fact : Fact) → allows fact old ≡ true → allows fact new ≡ true

-- the stages are later with a later stage of one card
pub stages_put : (stage : Stages) (c : ℕ) (new : Stage) → StageLater (stage c) new → StagesLater stage (put stage c new)
stages_put stage c new h = record {
  start = λ d. put_cases (λ s. is_start s ≡ is_start (stage d)) stage c new d (λ e. h.start ∙ ap (λ n. is_start (stage n)) (sym e)) (λ n. refl);
  insert = λ d g. put_cases (λ s. is_insert s ≡ true) stage c new d (λ e. h.insert (subst (λ n. is_insert (stage n) ≡ true) e g)) (λ n. g);
  delete = λ d g. put_cases (λ s. is_delete s ≡ true) stage c new d (λ e. h.delete (subst (λ n. is_delete (stage n) ≡ true) e g)) (λ n. g);
  born = λ x g. put_cases (λ s. is_node_born s (x % 4) ≡ true) stage c new (card x) (λ e. h.born (x % 4) (subst (λ n. is_node_born (stage n) (x % 4) ≡ true) e g)) (λ n. g);
  told = λ fact d g. put_cases (λ s. allows fact s ≡ true) stage c new d (λ e. h.told fact (subst (λ n. allows fact (stage n) ≡ true) e g)) (λ n. g);
}

-- where nothing is won, the wins of each card stay
pub wins_same : (s : Stage) → wins_of s ≡ wins_of s ++ []
wins_same s = grind arith

-- where a card wins and goes to a stage with that win, the wins grow by just that
pub wins_put : (stage : Stages) (c : ℕ) (new : Stage) (k : Exchange) → wins_of new ≡ wins_of (stage c) ++ k ∷ []
    → (d : ℕ) → wins_of (put stage c new d) ≡ wins_of (stage d) ++ win_for (Some c) k d
wins_put stage c new k h d = elim (cases_eq d c) [
  | inl e ↦ grind (arith, nat_tests)
  | inr n ↦ grind (arith, nat_tests)
]

-- where a card goes to a stage without a win, the wins of each card stay
pub wins_kept : (stage : Stages) (c : ℕ) (new : Stage) → wins_of new ≡ wins_of (stage c) → (d : ℕ) → wins_of (put stage c new d) ≡ wins_of (stage d) ++ []
wins_kept stage c new h d = elim (cases_eq d c) [
  | inl e ↦ grind (arith, nat_tests)
  | inr n ↦ grind (arith, nat_tests)
]

-- what holds of each kind of operation holds of each operation
each_op : (P : Op → Type 0) → ((k : ℕ) → P (Find k)) → ((k value : ℕ) → P (Insert k value)) → ((k : ℕ) → P (Delete k)) → ((k was value : ℕ) → P (Swap k was value)) → (op : Op) → P op
each_op P find insert delete swap (Find k) = find k
each_op P find insert delete swap (Insert k value) = insert k value
each_op P find insert delete swap (Delete k) = delete k
each_op P find insert delete swap (Swap k was value) = swap k was value

-- two stages of one kind of card, which is in the tree at both or at neither, and has made the same of its key
pub record SameKind (old new : Stage) : Type 0 where
  pub claimed : is_claimed new ≡ is_claimed old
  pub insert : is_insert new ≡ is_insert old
  pub delete : is_delete new ≡ is_delete old
  pub born : (place : ℕ) → is_node_born new place ≡ is_node_born old place
  pub made : (op : Op) → made_by_stage op new ≡ made_by_stage op old

-- a stage is of its own kind
pub same_kind : (s : Stage) → SameKind s s
same_kind s = record { claimed = refl; insert = refl; delete = refl; born = λ place. refl; made = λ op. refl }

-- an insert is flagged after it was claimed
pub iflag_later : StageLater IClaimed IFlagged
iflag_later = record { start = refl; insert = λ h. refl; delete = λ h. absurd (false≢true h); born = λ place h. absurd (false≢true h); told = told } where
  told : (f : Fact) → allows f IClaimed ≡ true → allows f IFlagged ≡ true
  told f h = grind arith

pub iflag_kind : SameKind IClaimed IFlagged
iflag_kind = record { claimed = refl; insert = refl; delete = refl; born = λ place. refl; made = each_op (λ op. made_by_stage op IFlagged ≡ made_by_stage op IClaimed) (λ k. refl) (λ k value. refl) (λ k. refl) (λ k was value. refl) }

-- its child exchange is made after that
pub ichild_later : StageLater IFlagged IChanged
ichild_later = record { start = refl; insert = λ h. refl; delete = λ h. absurd (false≢true h); born = λ place h. absurd (false≢true h); told = told } where
  told : (f : Fact) → allows f IFlagged ≡ true → allows f IChanged ≡ true
  told f h = grind arith

-- of a card that replaces a leaf likewise
pub rchild_later : StageLater IFlagged RChanged
rchild_later = record { start = refl; insert = λ h. refl; delete = λ h. absurd (false≢true h); born = λ place h. absurd (false≢true h); told = told } where
  told : (f : Fact) → allows f IFlagged ≡ true → allows f RChanged ≡ true
  told f h = grind arith

pub runflag_later : StageLater RChanged ROver
runflag_later = record { start = refl; insert = λ h. refl; delete = λ h. absurd (false≢true h); born = λ place h. h; told = told } where
  told : (f : Fact) → allows f RChanged ≡ true → allows f ROver ≡ true
  told f h = grind arith

pub runflag_kind : SameKind RChanged ROver
runflag_kind = record { claimed = refl; insert = refl; delete = refl; born = λ place. refl; made = each_op (λ op. made_by_stage op ROver ≡ made_by_stage op RChanged) (λ k. refl) (λ k value. refl) (λ k. refl) (λ k was value. refl) }

-- and it is over after that
pub iunflag_later : StageLater IChanged IOver
iunflag_later = record { start = refl; insert = λ h. refl; delete = λ h. absurd (false≢true h); born = λ place h. h; told = told } where
  told : (f : Fact) → allows f IChanged ≡ true → allows f IOver ≡ true
  told f h = grind arith

pub iunflag_kind : SameKind IChanged IOver
iunflag_kind = record { claimed = refl; insert = refl; delete = refl; born = λ place. refl; made = each_op (λ op. made_by_stage op IOver ≡ made_by_stage op IChanged) (λ k. refl) (λ k value. refl) (λ k. refl) (λ k was value. refl) }

-- a delete is flagged after it was claimed
pub dflag_later : StageLater DClaimed DFlagged
dflag_later = record { start = refl; insert = λ h. absurd (false≢true h); delete = λ h. refl; born = λ place h. absurd (false≢true h); told = told } where
  told : (f : Fact) → allows f DClaimed ≡ true → allows f DFlagged ≡ true
  told f h = grind arith

pub dflag_kind : SameKind DClaimed DFlagged
dflag_kind = record { claimed = refl; insert = refl; delete = refl; born = λ place. refl; made = each_op (λ op. made_by_stage op DFlagged ≡ made_by_stage op DClaimed) (λ k. refl) (λ k value. refl) (λ k. refl) (λ k was value. refl) }

-- it is marked after that
pub mark_later : StageLater DFlagged DMarked
mark_later = record { start = refl; insert = λ h. absurd (false≢true h); delete = λ h. refl; born = λ place h. absurd (false≢true h); told = told } where
  told : (f : Fact) → allows f DFlagged ≡ true → allows f DMarked ≡ true
  told f h = grind arith

pub mark_kind : SameKind DFlagged DMarked
mark_kind = record { claimed = refl; insert = refl; delete = refl; born = λ place. refl; made = each_op (λ op. made_by_stage op DMarked ≡ made_by_stage op DFlagged) (λ k. refl) (λ k value. refl) (λ k. refl) (λ k was value. refl) }

-- or can't be marked any more
pub unmarkable_later : StageLater DFlagged DUnmarkable
unmarkable_later = record { start = refl; insert = λ h. absurd (false≢true h); delete = λ h. refl; born = λ place h. absurd (false≢true h); told = told } where
  told : (f : Fact) → allows f DFlagged ≡ true → allows f DUnmarkable ≡ true
  told f h = grind arith

pub unmarkable_kind : SameKind DFlagged DUnmarkable
unmarkable_kind = record { claimed = refl; insert = refl; delete = refl; born = λ place. refl; made = each_op (λ op. made_by_stage op DUnmarkable ≡ made_by_stage op DFlagged) (λ k. refl) (λ k value. refl) (λ k. refl) (λ k was value. refl) }

-- it cuts after it was marked
pub dchild_later : StageLater DMarked DCut
dchild_later = record { start = refl; insert = λ h. absurd (false≢true h); delete = λ h. refl; born = λ place h. absurd (false≢true h); told = told } where
  told : (f : Fact) → allows f DMarked ≡ true → allows f DCut ≡ true
  told f h = grind arith

-- and is over after that
pub dunflag_later : StageLater DCut DOver
dunflag_later = record { start = refl; insert = λ h. absurd (false≢true h); delete = λ h. refl; born = λ place h. absurd (false≢true h); told = told } where
  told : (f : Fact) → allows f DCut ≡ true → allows f DOver ≡ true
  told f h = grind arith

pub dunflag_kind : SameKind DCut DOver
dunflag_kind = record { claimed = refl; insert = refl; delete = refl; born = λ place. refl; made = each_op (λ op. made_by_stage op DOver ≡ made_by_stage op DCut) (λ k. refl) (λ k value. refl) (λ k. refl) (λ k was value. refl) }

-- and its flag is taken back after it could not be marked any more
pub backtrack_later : StageLater DUnmarkable DBacked
backtrack_later = record { start = refl; insert = λ h. absurd (false≢true h); delete = λ h. refl; born = λ place h. absurd (false≢true h); told = told } where
  told : (f : Fact) → allows f DUnmarkable ≡ true → allows f DBacked ≡ true
  told f h = grind arith

pub backtrack_kind : SameKind DUnmarkable DBacked
backtrack_kind = record { claimed = refl; insert = refl; delete = refl; born = λ place. refl; made = each_op (λ op. made_by_stage op DBacked ≡ made_by_stage op DUnmarkable) (λ k. refl) (λ k value. refl) (λ k. refl) (λ k was value. refl) }
