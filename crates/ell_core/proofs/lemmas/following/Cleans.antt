use Rattle.std.proofs.Common.{◌≡◌, ◌≢◌, ℕ, ◌<◌, ◌==◌, ◌⊎◌, if◌then◌else◌, inl, inr, Bool, true, false, refl, sym, ap, ◌∙◌, subst, arith}
use Rattle.std.proofs.lemmas.Bool.{cases_eq, eqb-true, false_from_ne_true}
use Rattle.ell_word.specs.Node.{internal}
use Rattle.ell_core.specs.declared.event.Act.{Act}
use Rattle.ell_core.specs.declared.event.Act.TheVariants as act
use Rattle.ell_core.specs.declared.event.Stepped.{Stepped}
use Rattle.ell_core.specs.declared.fact.Fact.TheVariants.{IChanged, Cut, Unmarkable}
use Rattle.ell_layout.specs.Words.{Words, put, with_update, relinked}
use Rattle.ell_core.specs.state.Machine.{Machine, Scene, scene, with_scene}
use Rattle.ell_layout.specs.Cards.{iflag, dflag, marked, clean, exchange_side}
use Rattle.ell_core.specs.acts.Exchanges.{exchanged_update, exchanged_child, finds_link}
use Rattle.ell_core.specs.acts.Events.{Row}
use Rattle.ell_core.specs.history.Stages.{Stages, insert_open, delete_open}
use Rattle.ell_core.specs.history.Invariant.{Invariant, IsInnerBorn}
use Rattle.ell_core.specs.history.Later.{WordsLater, StagesLater, Follows}
use Rattle.ell_core.specs.statements.Since.{has_ended, IsFlaggedAt, CleansSince, CleansGoOn}
use Rattle.ell_layout.proofs.lemmas.Writes.{put_same, put_other}
use Rattle.ell_core.proofs.lemmas.stages.Order.{changed-insert, cut-delete, unmarkable-delete, insert-claimed, delete-claimed}
use Rattle.ell_core.proofs.lemmas.stages.Ended.{changed-ended, cut-ended, unmarkable-ended, insert_open-unended, delete_open-unended, ends_last, unended_before}
use Rattle.ell_word.specs.declared.link.Link.{Link}

-- what an act makes of an update word: it stays, or is no clean one of a card that may have a flag, or ends its card
data Change (old new : Words) (before after : Stages) (x : ℕ) : Type 0 where
  same : new.update x ≡ old.update x → Change old new before after x
  dirty : ((c : ℕ) → new.update x ≡ clean c → c ≡ 0) → Change old new before after x
  ends : (d : ℕ) → new.update x ≡ clean d → has_ended (before d) ≡ false → has_ended (after d) ≡ true → IsFlaggedAt new after x d
      → Change old new before after x

-- an exchange of an update word at a node
exchange_at : (w : Words) (node expected value x : ℕ)
    → ((exchanged_update w node expected value).update x ≡ w.update x)
    ⊎ ((x ≡ node) × (w.update node ≡ expected) × ((exchanged_update w node expected value).update x ≡ value))
exchange_at w node expected value x = by (w.update node == expected) refl
  where
    by : (b : Bool) → (w.update node == expected) ≡ b
        → ((if b then with_update w node value else w).update x ≡ w.update x)
        ⊎ ((x ≡ node) × (w.update node ≡ expected) × ((if b then with_update w node value else w).update x ≡ value))
    by false e = inl refl
    by true e = elim (cases_eq x node) [
      | inl q ↦ inr (q, eqb-true (w.update node) expected e, ap (put w.update node value) q ∙ put_same w.update node value)
      | inr n ↦ inl (put_other w.update node value x n)
    ]

child_update : (w : Words) (x : ℕ) (expected : Link) (new y : ℕ) → (exchanged_child w x expected new).update y ≡ w.update y
child_update w x expected new y = by (finds_link w x expected new)
  where
    by : (b : Bool) → (if b then relinked w x (exchange_side w x new) new else w).update y ≡ w.update y
    by true = refl
    by false = refl

module _ (old : Machine) (before : Stages) (i : ℕ) (said : Stepped) (becomes : Scene) (invariant : Invariant old before) (a : Act)
    (follows : Follows old before a i said (with_scene old i becomes)) (x : ℕ) where
  -- the change of an update word at x
  abbrev Changed : Type 0
  Changed = Change old.words becomes.words before follows.stages x

  -- an exchange to a flag or a mark
  to_flag : (node expected value : ℕ) → ((c : ℕ) → value ≢ clean c) → becomes.words.update x ≡ (exchanged_update old.words node expected value).update x → Changed
  to_flag node expected value never is = elim (exchange_at old.words node expected value x) [
    | inl e ↦ same (is ∙ e)
    | inr h ↦ dirty (λ c e. absurd (never c (sym (is ∙ h.2) ∙ e)))
  ]

  -- the end of an insert
  ends_insert : (c : ℕ) → (old.worker i).knows (IChanged c) ≡ true
      → becomes.words.update x ≡ (exchanged_update old.words (old.words.p c) (iflag c) (clean c)).update x → Changed
  ends_insert c knows is = elim (exchange_at old.words (old.words.p c) (iflag c) (clean c) x) [
    | inl e ↦ same (is ∙ e)
    | inr h ↦
        let changed = (invariant.workers.each i).facts (IChanged c) knows in
        let inserts = changed-insert (before c) changed in
        let card = (invariant.words.cards c).insert inserts in
        let low = (invariant.words.cards c).claimed.0 (insert-claimed (before c) inserts) in
        let open_now = ((invariant.words.updates (old.words.p c) card.parent.inner card.parent.born).iflagged c h.1).0 in
        let now = is ∙ h.2 in
        ends c now (insert_open-unended (before c) open_now)
        (changed-ended (follows.stages c) (follows.later.told (IChanged c) c changed)
        (false_from_ne_true (insert_open (follows.stages c)) (λ still.
        let flag = (follows.invariant.words.inserts c).flag still in
        let place = (follows.words.info c low).p in
        let there = ap becomes.words.update place ∙ (ap becomes.words.update (sym h.0) ∙ now) in
        omega arith)))
        (let more = follows.words.next in (omega arith, inl (follows.later.insert c inserts, (follows.words.info c low).p ∙ sym h.0)))
  ]

  -- the end of a delete
  ends_delete : (c : ℕ) (grandparent : IsInnerBorn before (old.words.gp c)) → c < old.words.next
      → (delete_open (follows.stages c) ≡ false → has_ended (follows.stages c) ≡ true)
      → becomes.words.update x ≡ (exchanged_update old.words (old.words.gp c) (dflag c) (clean c)).update x → Changed
  ends_delete c grandparent low then_ends is = elim (exchange_at old.words (old.words.gp c) (dflag c) (clean c) x) [
    | inl e ↦ same (is ∙ e)
    | inr h ↦
        let open_now = ((invariant.words.updates (old.words.gp c) grandparent.inner grandparent.born).dflagged c h.1).0 in
        let now = is ∙ h.2 in
        ends c now (delete_open-unended (before c) open_now)
        (then_ends (false_from_ne_true (delete_open (follows.stages c)) (λ still.
        let flag = (follows.invariant.words.deletes c).flag still in
        let place = (follows.words.info c low).gp in
        let there = ap becomes.words.update place ∙ (ap becomes.words.update (sym h.0) ∙ now) in
        omega arith)))
        (let more = follows.words.next in (omega arith, inr ((follows.words.info c low).gp ∙ sym h.0)))
  ]

  ends_cut : (c : ℕ) → (old.worker i).knows (Cut c) ≡ true
      → becomes.words.update x ≡ (exchanged_update old.words (old.words.gp c) (dflag c) (clean c)).update x → Changed
  ends_cut c knows is =
      let cut = (invariant.workers.each i).facts (Cut c) knows in
      let deletes = cut-delete (before c) cut in
      ends_delete c ((invariant.words.cards c).delete deletes).grandparent ((invariant.words.cards c).claimed.0 (delete-claimed (before c) deletes))
      (cut-ended (follows.stages c) (follows.later.told (Cut c) c cut)) is

  ends_backed : (c : ℕ) → (old.worker i).knows (Unmarkable c) ≡ true
      → becomes.words.update x ≡ (exchanged_update old.words (old.words.gp c) (dflag c) (clean c)).update x → Changed
  ends_backed c knows is =
      let un = (invariant.workers.each i).facts (Unmarkable c) knows in
      let deletes = unmarkable-delete (before c) un in
      ends_delete c ((invariant.words.cards c).delete deletes).grandparent ((invariant.words.cards c).claimed.0 (delete-claimed (before c) deletes))
      (unmarkable-ended (follows.stages c) (follows.later.told (Unmarkable c) c un)) is

-- what each act makes of an update word
changes : (a : Act) (old : Machine) (before : Stages) (i : ℕ) (said : Stepped) (becomes : Scene) → Invariant old before → Row a (scene old i) said becomes
    → (follows : Follows old before a i said (with_scene old i becomes)) → (x : ℕ) → Change old.words becomes.words before follows.stages x
changes (act.Begin op) old before i said becomes inv row f x = same (ap (λ (s : Scene). s.words.update x) row.gives)
changes act.Upd old before i said becomes inv row f x = same (ap (λ (s : Scene). s.words.update x) row.gives)
changes act.Down old before i said becomes inv row f x = same (ap (λ (s : Scene). s.words.update x) row.gives)
changes act.Again old before i said becomes inv row f x = same (ap (λ (s : Scene). s.words.update x) row.gives)
changes act.Leave old before i said becomes inv row f x = same (ap (λ (s : Scene). s.words.update x) row.gives)
changes act.Answer old before i said becomes inv row f x = same (ap (λ (s : Scene). s.words.update x) row.gives)
changes act.Claim old before i said becomes inv (inl row) f x = elim (cases_eq x (internal old.words.next)) [
  | inl e ↦ dirty (λ c is. (let at = ap (λ (s : Scene). s.words.update x) row.gives in
      let put_it = ap (put old.words.update (internal old.words.next) (clean 0)) e ∙ put_same old.words.update (internal old.words.next) (clean 0) in
      let now = sym (at ∙ put_it) ∙ is in omega arith))
  | inr n ↦ same (ap (λ (s : Scene). s.words.update x) row.gives ∙ put_other old.words.update (internal old.words.next) (clean 0) x n)
]
changes act.Claim old before i said becomes inv (inr row) f x = same (ap (λ (s : Scene). s.words.update x) row.gives)
changes act.IFlag old before i said becomes inv row f x =
    to_flag old before i said becomes inv act.IFlag f x row.parent.node row.parent.word (iflag row.card) (λ c e. omega arith) (ap (λ (s : Scene). s.words.update x) row.gives)
changes act.DFlag old before i said becomes inv row f x =
    to_flag old before i said becomes inv act.DFlag f x row.grandparent.node row.grandparent.word (dflag row.card) (λ c e. omega arith) (ap (λ (s : Scene). s.words.update x) row.gives)
changes (act.Mark c) old before i said becomes inv row f x =
    to_flag old before i said becomes inv (act.Mark c) f x (old.words.p c) (old.words.was c) (marked c) (λ d e. omega arith) (ap (λ (s : Scene). s.words.update x) row.gives)
changes (act.IChild c) old before i said becomes inv row f x = same (ap (λ (s : Scene). s.words.update x) row.gives ∙ child_update old.words _ _ _ x)
changes (act.DChild c) old before i said becomes inv row f x = same (ap (λ (s : Scene). s.words.update x) row.gives ∙ child_update old.words _ _ _ x)
changes (act.IUnflag c) old before i said becomes inv row f x =
    ends_insert old before i said becomes inv (act.IUnflag c) f x c row.may (ap (λ (s : Scene). s.words.update x) row.gives)
changes (act.DUnflag c) old before i said becomes inv row f x =
    ends_cut old before i said becomes inv (act.DUnflag c) f x c row.may (ap (λ (s : Scene). s.words.update x) row.does.gives)
changes (act.Backtrack c) old before i said becomes inv row f x =
    ends_backed old before i said becomes inv (act.Backtrack c) f x c row.may (ap (λ (s : Scene). s.words.update x) row.does.gives)

-- where a card of a clean word goes, it goes on
pub below_later : (old new : Words) (before after : Stages) → WordsLater old new → StagesLater before after → (x c : ℕ)
    → IsFlaggedAt old before x c → IsFlaggedAt new after x c
below_later old new before after words more x c h =
    let next = words.next in
    let low = h.0 in (
      omega arith,
      elim h.1 [
        | inl insert ↦ inl (more.insert c insert.0, (words.info c h.0).p ∙ insert.1)
        | inr at ↦ inr ((words.info c h.0).gp ∙ at)
      ],
    )

-- a clean word that is new is of a card that has ended since
clean_since : (w : Words) (stage : Stages) (old new : Words) (before after : Stages) → StagesLater stage before → WordsLater old new → StagesLater before after
    → CleansSince w stage old before → (x : ℕ) → Change old new before after x
    → (c : ℕ) → w.update x < new.update x → new.update x ≡ clean c → 0 < c
    → (has_ended (stage c) ≡ false) × (has_ended (after c) ≡ true) × IsFlaggedAt new after x c
clean_since w stage old new before after later words more since x (same e) c rose is some =
    let was = since x c (omega arith) (sym e ∙ is) some in (was.0, ends_last before after more c was.1, below_later old new before after words more x c was.2)
clean_since w stage old new before after later words more since x (dirty none) c rose is some = let zero_it = none c is in absurd (omega arith)
clean_since w stage old new before after later words more since x (ends d e un done below) c rose is some =
    let one : d ≡ c = omega arith in (
      unended_before stage before later c (ap (λ n. has_ended (before n)) (sym one) ∙ un),
      ap (λ n. has_ended (after n)) (sym one) ∙ done,
      subst (IsFlaggedAt new after x) one below,
    )

-- so it goes on
pub cleans_go_on : CleansGoOn
cleans_go_on m stage old before e said new invariant later h follows since =
    subst (λ (t : Machine). (f : Follows old before e.act e.worker said t) → CleansSince m.words stage t.words f.stages) (sym h.gives)
    (λ f x. clean_since m.words stage old.words h.becomes.words before f.stages later f.words f.later since x
    (changes e.act old before e.worker said h.becomes invariant h.happens.row f x)) follows
