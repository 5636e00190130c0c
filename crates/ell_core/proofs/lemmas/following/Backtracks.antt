use Rattle.std.proofs.Common.{◌≡◌, ◌⊎◌, ℕ, zero, suc, ◌<◌, ◌≤◌, ◌==◌, if◌then◌else◌, Bool, true, false, Option, Some, None, ◌∷◌, [], inl, inr, refl, sym, ap, ◌∙◌, subst, eqb-true, arith}
use Rattle.std.proofs.lemmas.Bool.{cases_eq, false≢true}
use Rattle.std.proofs.lemmas.Option.{same_Some}
use Rattle.ell_ops.specs.declared.op.Op.{Op}
use Rattle.ell_ops.specs.declared.op.Op.TheVariants.{Delete}
use Rattle.ell_ops.specs.Meaning.{key_of}
use Rattle.ell_core.specs.declared.exchange.Exchange.TheVariants as exchange
use Rattle.ell_core.specs.declared.event.Act.{Act}
use Rattle.ell_core.specs.declared.event.Act.TheVariants as act
use Rattle.ell_core.specs.declared.event.Event.{Event}
use Rattle.ell_core.specs.declared.event.Stepped.{Stepped}
use Rattle.ell_core.specs.declared.event.Stepped.TheVariants.{Won}
use Rattle.ell_core.specs.declared.fact.Fact.{Fact}
use Rattle.ell_core.specs.declared.fact.Fact.TheVariants.{IFlagged, DFlagged, Cut}
use Rattle.ell_core.specs.declared.view.Search.{Search}
use Rattle.ell_core.specs.declared.view.Seen.{Seen}
use Rattle.ell_layout.specs.Words.{Words, put}
use Rattle.ell_core.specs.state.Machine.{Worker, Machine, Scene, scene, with_scene}
use Rattle.ell_layout.specs.Cards.{dflag, clean, child_for}
use Rattle.ell_core.specs.acts.Searching.{with_read, gone_down}
use Rattle.ell_core.specs.acts.Exchanges.{flagged_worker, won_or_lost}
use Rattle.ell_core.specs.acts.Events.{Row, Steps}
use Rattle.ell_core.specs.acts.Wins.{win_for, wins_by}
use Rattle.ell_core.specs.history.Stages.{Stages, is_backed, is_delete, delete_won, delete_waits}
use Rattle.ell_core.specs.history.Invariant.{Invariant, StandIsSound, DeleteInHand}
use Rattle.ell_core.specs.history.Later.{Follows}
use Rattle.ell_core.proofs.lemmas.outcomes.Decide.{some_not_none, cases_option}
use Rattle.ell_core.proofs.lemmas.words.CleanWords.{clean_remainder}
use Rattle.ell_layout.proofs.lemmas.Writes.{put_same, put_other}
use Rattle.ell_core.proofs.lemmas.stages.Order.{delete-claimed, delete_won-delete, delete_waits-open, backed-delete}
use Rattle.ell_core.proofs.lemmas.stages.Holding.{delete_won-cases, backed-unmarkable}
use Rattle.ell_core.proofs.lemmas.stages.Flags.{unbacked_cases, cut_not_backed, backed-won}
use Rattle.ell_core.proofs.lemmas.stages.Sums.{backs, delete_flags, kind_sum, sum_by, none_won, backed-sum, sum-backed, won-sum, sum-won, sum_same}

-- the flag of a delete's card was set since these stages, and taken back
abbrev pub IsTakenBack : Stages → Stages → ℕ → Type 0
IsTakenBack first stage c = (delete_won (first c) ≡ false) × (is_backed (stage c) ≡ true)

-- a search that has seen node x past the flag of card c, and y below it, has read an update word at y that is no less than this
pub record ReadsAfter (least x y c : ℕ) (search : Search) : Type 0 where
  pub behind : (z : ℕ) (seen above : Seen) → search.node ≡ Some z → search.parent ≡ Some seen → search.grandparent ≡ Some above → above.node ≡ x → seen.node ≡ y
      → clean c ≤ above.word → least ≤ seen.word
  pub here : (above : Seen) (word : ℕ) → search.node ≡ Some y → search.read ≡ Some word → search.parent ≡ Some above → above.node ≡ x
      → clean c ≤ above.word → least ≤ word

-- what became of the cards that were taken back: their parent's update word had risen over the one that their search had read, to this or
-- more; whoever reads at grandparent and parent since reads no less at the parent; so later cards of the same nodes have read no less
pub record Backtracks (first : Stages) (w : Words) (stage : Stages) (worker : ℕ → Worker) : Type 0 where
  pub least : ℕ → ℕ
  pub rose : (c : ℕ) → IsTakenBack first stage c → (w.was c < least c) × (least c ≤ w.update (w.p c))
  pub reads : (i c : ℕ) → IsTakenBack first stage c → ReadsAfter (least c) (w.gp c) (w.p c) c (worker i).search
  pub later : (c d : ℕ) → IsTakenBack first stage c → delete_won (stage d) ≡ true → c < d → w.gp d ≡ w.gp c → w.p d ≡ w.p c → least c ≤ w.was d

-- so it is after an event: what was known of a card that was taken back before is known, and of one that is taken back now the word that
-- stands at its parent is the least, and its child exchange was not made
pub record Keeps (first : Stages) (w : Words) (stage : Stages) (worker : ℕ → Worker) (old : Backtracks first w stage worker)
    (now : Words) (after : Stages) (workers : ℕ → Worker) : Type 0 where
  pub backtracks : Backtracks first now after workers
  pub from : (c : ℕ) → IsTakenBack first after c
      → (IsTakenBack first stage c × (backtracks.least c ≡ old.least c)) ⊎ ((backtracks.least c ≡ now.update (now.p c)) × (delete_waits (stage c) ≡ true))

pub it_is : {A : Type 0} {x y : A} → Some x ≡ Some y → x ≡ y
it_is {x = x} {y = y} e = same_Some x y e

-- how an act moves a search
pub data Moves (w : Words) (old new : Search) : Type 0 where
  stays : new ≡ old → Moves w old new
  afresh : new.parent ≡ None → new.read ≡ None → Moves w old new
  nowhere : new.node ≡ None → Moves w old new
  reads : (x : ℕ) → old.node ≡ Some x → new ≡ with_read old (w.update x) → Moves w old new
  goes : (seen : Seen) (child : ℕ) → old.node ≡ Some seen.node → old.read ≡ Some seen.word → new ≡ gone_down old seen child → Moves w old new

pub flag_nowhere : (v : Worker) (b : Bool) (new : Fact) (found : ℕ) → (flagged_worker v b new found).search.node ≡ None
flag_nowhere v true new found = refl
flag_nowhere v false new found = refl

pub moves : (a : Act) (s : Scene) (said : Stepped) (after : Scene) → Row a s said after → Moves s.words s.worker.search after.worker.search
moves (act.Begin op) s said after row = afresh (ap (λ (z : Scene). z.worker.search.parent) row.gives) (ap (λ (z : Scene). z.worker.search.read) row.gives)
moves act.Upd s said after row = reads row.node row.stands (ap (λ (z : Scene). z.worker.search) row.gives)
moves act.Down s said after row = goes row.seen (child_for s.words (key_of row.op) row.seen.node) row.stands row.read (ap (λ (z : Scene). z.worker.search) row.gives)
moves act.Again s said after row = afresh (ap (λ (z : Scene). z.worker.search.parent) row.gives) (ap (λ (z : Scene). z.worker.search.read) row.gives)
moves act.Leave s said after row = afresh (ap (λ (z : Scene). z.worker.search.parent) row.gives) (ap (λ (z : Scene). z.worker.search.read) row.gives)
moves act.Answer s said after row = afresh (ap (λ (z : Scene). z.worker.search.parent) row.gives) (ap (λ (z : Scene). z.worker.search.read) row.gives)
moves act.Claim s said after (inl row) = stays (ap (λ (z : Scene). z.worker.search) row.gives)
moves act.Claim s said after (inr row) = stays (ap (λ (z : Scene). z.worker.search) row.gives)
moves act.IFlag s said after row = nowhere (ap (λ (z : Scene). z.worker.search.node) row.gives
    ∙ flag_nowhere s.worker (s.words.update row.parent.node == row.parent.word) (IFlagged row.card) (s.words.update row.parent.node))
moves act.DFlag s said after row = nowhere (ap (λ (z : Scene). z.worker.search.node) row.gives
    ∙ flag_nowhere s.worker (s.words.update row.grandparent.node == row.grandparent.word) (DFlagged row.card) (s.words.update row.grandparent.node))
moves (act.IChild c) s said after row = stays (ap (λ (z : Scene). z.worker.search) row.gives)
moves (act.IUnflag c) s said after row = stays (ap (λ (z : Scene). z.worker.search) row.gives)
moves (act.Mark c) s said after row = stays (ap (λ (z : Scene). z.worker.search) row.gives)
moves (act.DChild c) s said after row = stays (ap (λ (z : Scene). z.worker.search) row.gives)
moves (act.DUnflag c) s said after row = stays (ap (λ (z : Scene). z.worker.search) row.does.gives)
moves (act.Backtrack c) s said after row = stays (ap (λ (z : Scene). z.worker.search) row.does.gives)

-- a search that begins afresh, or stands nowhere, has read nothing of the kind
pub reads_afresh : (least x y c : ℕ) (search : Search) → search.parent ≡ None → ReadsAfter least x y c search
reads_afresh least x y c search none = record {
  behind = λ z seen above node parent grandparent at below past. absurd (some_not_none parent none);
  here = λ above word node read parent at past. absurd (some_not_none parent none);
}

reads_nowhere : (least x y c : ℕ) (search : Search) → search.node ≡ None → ReadsAfter least x y c search
reads_nowhere least x y c search none = record {
  behind = λ z seen above node parent grandparent at below past. absurd (some_not_none node none);
  here = λ above word node read parent at past. absurd (some_not_none node none);
}

-- it reads the update word that stands, and goes down with what it has read
reads_on : (w : Words) (least x y c : ℕ) (old new : Search) → least ≤ w.update y → Moves w old new → ReadsAfter least x y c old → ReadsAfter least x y c new
reads_on w least x y c old new up (stays e) h = subst (ReadsAfter least x y c) (sym e) h
reads_on w least x y c old new up (afresh none unread) h = reads_afresh least x y c new none
reads_on w least x y c old new up (nowhere none) h = reads_nowhere least x y c new none
reads_on w least x y c old new up (reads z at e) h = record {
  behind = λ n seen above node parent grandparent. h.behind n seen above (sym (ap (λ (s : Search). s.node) e) ∙ node) (sym (ap (λ (s : Search). s.parent) e) ∙ parent)
      (sym (ap (λ (s : Search). s.grandparent) e) ∙ grandparent);
  here = λ above word node read parent is past.
      let there = it_is (sym at ∙ (sym (ap (λ (s : Search). s.node) e) ∙ node)) in
      let found = it_is (sym (ap (λ (s : Search). s.read) e) ∙ read) in
      let same = ap w.update there in
      omega arith;
}
reads_on w least x y c old new up (goes from child at read e) h = record {
  behind = λ n seen above node parent grandparent is below past.
      let same = it_is (sym (ap (λ (s : Search). s.parent) e) ∙ parent) in
      let more = h.here above from.word (at ∙ ap (λ (s : Seen). Some s.node) same ∙ ap Some below) read (sym (ap (λ (s : Search). s.grandparent) e) ∙ grandparent) is past in
      let word = ap (λ (s : Seen). s.word) same in
      omega arith;
  here = λ above word node has parent is past. absurd (some_not_none has (ap (λ (s : Search). s.read) e));
}

-- an act that takes a flag back moves no search, and sets no flag
back_stays : (a : Act) (s : Scene) (said : Stepped) (after : Scene) → Row a s said after → 0 < kind_sum backs a → after.worker.search ≡ s.worker.search
back_stays (act.Backtrack c) s said after row some = ap (λ (z : Scene). z.worker.search) row.does.gives
back_stays _ s said after row some = absurd (omega arith)

back_flags : (a : Act) → 0 < kind_sum backs a → kind_sum delete_flags a ≡ 0
back_flags (act.Backtrack c) some = refl
back_flags _ some = absurd (omega arith)

-- a delete's flag that an act wins is of the card in hand, and the grandparent has the update word that its search read there
pub record WinsFlag (s : Scene) (d : ℕ) : Type 0 where
  pub key : ℕ
  pub above : Seen
  pub deletes : s.worker.operation ≡ Some (Delete key)
  pub holds : s.worker.card ≡ Some d
  pub unflagged : s.worker.flagged ≡ false
  pub seen : s.worker.search.grandparent ≡ Some above
  pub found : s.words.update above.node ≡ above.word

said_won : (b : Bool) → Won ≡ won_or_lost b → b ≡ true
said_won true e = refl
said_won false e = absurd (cc)

one_of : (d e : ℕ) (b : Bool) → (d == e) ≡ b → 0 < sum_by delete_flags (if b then exchange.DFlag ∷ [] else []) → d ≡ e
one_of d e true is some = eqb-true d e is
one_of d e false is some = absurd (omega arith)

flag_won : (s : Scene) (said : Stepped) (after : Scene) → Row act.DFlag s said after → (d : ℕ) → 0 < sum_by delete_flags (wins_by act.DFlag s.worker.card said d) → WinsFlag s d
flag_won s Won after row d some =
    let is = subst (λ o. 0 < sum_by delete_flags (win_for o exchange.DFlag d)) row.holds some in
    let same = one_of d row.card (d == row.card) refl is in record {
      key = row.key;
      above = row.grandparent;
      deletes = row.deletes;
      holds = row.holds ∙ ap Some (sym same);
      unflagged = row.unflagged;
      seen = row.above;
      found = eqb-true (s.words.update row.grandparent.node) row.grandparent.word
          (said_won (s.words.update row.grandparent.node == row.grandparent.word) row.says);
    }
flag_won s _ after row d some = absurd (omega arith)

pub act_flag : (a : Act) (s : Scene) (said : Stepped) (after : Scene) → Row a s said after → (d : ℕ) → 0 < sum_by delete_flags (wins_by a s.worker.card said d) → WinsFlag s d
act_flag act.DFlag s said after row d some = flag_won s said after row d some
act_flag a s said after row d some = (let none = none_won delete_flags a s.worker.card said d refl in absurd (omega arith))

-- what an act leaves of that
module _ (first : Stages) (m : Machine) (stage : Stages) (invariant : Invariant m stage) (a : Act) (i : ℕ) (said : Stepped) (becomes : Scene)
    (row : Row a (scene m i) said becomes) (f : Follows m stage a i said (with_scene m i becomes)) (old : Backtracks first m.words stage m.worker) where
  abbrev new : Machine
  new = with_scene m i becomes

  abbrev hand : Option ℕ
  hand = (m.worker i).card

  -- where a flag is taken back, the update word that stands at the parent then
  abbrev least_now : Bool → ℕ → ℕ
  least_now true c = old.least c
  least_now false c = new.words.update (new.words.p c)

  low : (c : ℕ) → is_delete (stage c) ≡ true → c < m.words.next
  low c deletes = (invariant.words.cards c).claimed.0 (delete-claimed (stage c) deletes)

  -- what a card that is taken back now was: its flag stood
  module _ (c : ℕ) (unbacked : is_backed (stage c) ≡ false) (backed : is_backed (f.stages c) ≡ true) where
    act_backs : 0 < kind_sum backs a
    act_backs = by (kind_sum backs a) refl
      where
        by : (n : ℕ) → kind_sum backs a ≡ n → 0 < n
        by zero e =
            let none = none_won backs a hand said c e in
            let same = sum_same backs (stage c) (f.stages c) (wins_by a hand said c) (f.wins c) none in
            let some = backed-sum (f.stages c) backed in
            absurd (false≢true (sym unbacked ∙ sum-backed (stage c) (omega arith)))
        by (suc n) e = omega arith

    flags_same : (d : ℕ) → delete_won (f.stages d) ≡ true → delete_won (stage d) ≡ true
    flags_same d won =
        let none = none_won delete_flags a hand said d (back_flags a act_backs) in
        let same = sum_same delete_flags (stage d) (f.stages d) (wins_by a hand said d) (f.wins d) none in
        let some = won-sum (f.stages d) won in
        sum-won (stage d) (omega arith)

    waited : delete_waits (stage c) ≡ true
    waited = elim (unbacked_cases (stage c) (flags_same c (backed-won (f.stages c) backed)) unbacked) [
      | inl waits ↦ waits
      | inr cut ↦ absurd (cut_not_backed (f.stages c) (f.later.told (Cut c) c cut) backed)
    ]

    flag_stood : m.words.update (m.words.gp c) ≡ dflag c
    flag_stood = (invariant.words.deletes c).flag (delete_waits-open (stage c) waited)

    was_low : c < m.words.next
    was_low = low c (delete_won-delete (stage c) (flags_same c (backed-won (f.stages c) backed)))

    -- each search is as it was
    search_same : (j : ℕ) → (new.worker j).search ≡ (m.worker j).search
    search_same j = elim (cases_eq j i) [
      | inl e ↦ ap (λ (v : Worker). v.search) (ap (put m.worker i becomes.worker) e ∙ put_same m.worker i becomes.worker)
          ∙ (back_stays a (scene m i) said becomes row act_backs ∙ ap (λ n. (m.worker n).search) (sym e))
      | inr n ↦ ap (λ (v : Worker). v.search) (put_other m.worker i becomes.worker j n)
    ]

    -- and has read no word past its flag
    stands : (j z : ℕ) → (m.worker j).search.node ≡ Some z → (op : Op) × StandIsSound m.words stage (m.worker j) (key_of op) z
    stands j z node = elim (cases_option (m.worker j).operation) [
      | inl op ↦ (op.0, (invariant.workers.each j).stands op.0 z op.1 node)
      | inr none ↦ absurd (some_not_none node (ap (λ (v : Worker). v.search.node) ((invariant.workers.each j).free none)))
    ]

    not_past : (above : Seen) → above.node ≡ new.words.gp c → above.word ≤ m.words.update above.node → clean c ≤ above.word → ⊥
    not_past above at word past =
        let there = ap m.words.update (at ∙ (f.words.info c was_low).gp) in
        let stood = flag_stood in
        omega arith

    reads_none : (j least : ℕ) → ReadsAfter least (new.words.gp c) (new.words.p c) c (new.worker j).search
    reads_none j least = subst (ReadsAfter least (new.words.gp c) (new.words.p c) c) (sym (search_same j)) (record {
      behind = λ z seen above node parent grandparent at below past.
          absurd (not_past above at ((stands j z node).1.grandparent seen above parent grandparent).word past);
      here = λ above word node read parent at past. absurd (not_past above at ((stands j (new.words.p c) node).1.parent above parent).0.word past);
    })

    -- a card after it was not flagged there yet
    none_later : (d : ℕ) → delete_won (f.stages d) ≡ true → c < d → new.words.gp d ≡ new.words.gp c → ⊥
    none_later d won after at =
        let was = flags_same d won in
        let place = sym (f.words.info d (low d (delete_won-delete (stage d) was))).gp ∙ (at ∙ (f.words.info c was_low).gp) in
        let there = ap m.words.update place in
        let stood = flag_stood in
        elim (delete_won-cases (stage d) was) [
          | inl o ↦ (let flag = (invariant.words.deletes d).flag o in omega arith)
          | inr o ↦ (let past = (invariant.words.deletes d).past o in omega arith)
        ]

  -- what a card that was taken back before is
  module _ (c : ℕ) (taken : IsTakenBack first stage c) where
    before_low : c < m.words.next
    before_low = low c (backed-delete (stage c) taken.1)

    reads_still : (j : ℕ) → ReadsAfter (old.least c) (new.words.gp c) (new.words.p c) c (new.worker j).search
    reads_still j =
        let info = f.words.info c before_low in
        subst (λ x. ReadsAfter (old.least c) x (new.words.p c) c (new.worker j).search) (sym info.gp)
        (subst (λ y. ReadsAfter (old.least c) (m.words.gp c) y c (new.worker j).search) (sym info.p) (elim (cases_eq j i) [
          | inl e ↦
              subst (λ (v : Worker). ReadsAfter (old.least c) (m.words.gp c) (m.words.p c) c v.search)
              (sym (ap (put m.worker i becomes.worker) e ∙ put_same m.worker i becomes.worker))
              (reads_on m.words (old.least c) (m.words.gp c) (m.words.p c) c (m.worker i).search becomes.worker.search (old.rose c taken).1
              (moves a (scene m i) said becomes row) (old.reads i c taken))
          | inr n ↦ subst (λ (v : Worker). ReadsAfter (old.least c) (m.words.gp c) (m.words.p c) c v.search)
              (sym (put_other m.worker i becomes.worker j n)) (old.reads j c taken)
        ]))

    -- a delete whose flag is set there now has read the parent since
    sets_flag : (d : ℕ) → WinsFlag (scene m i) d → m.words.gp d ≡ m.words.gp c → m.words.p d ≡ m.words.p c → (old.least c ≤ m.words.was d) × (d < m.words.next)
    sets_flag d wins at below =
        let h : DeleteInHand m.words stage (m.worker i) wins.key d = (invariant.workers.each i).unflagged (Delete wins.key) d wins.deletes wins.holds wins.unflagged in
        let above = it_is (sym h.above ∙ wins.seen) in
        let past = (invariant.words.deletes c).past ((backed-unmarkable (stage c) taken.1).1) in
        let word = ap (λ (s : Seen). s.word) above in
        let found = wins.found in
        let there = ap m.words.update (sym (ap (λ (s : Seen). s.node) above) ∙ (h.top_node ∙ at)) in
        let calm = clean_remainder h.grandparent.word h.calm in
        let more = (old.reads i c taken).behind (m.words.l d) h.parent h.grandparent h.stands h.behind h.above (h.top_node ∙ at) (h.node ∙ below) (omega arith) in
        let was = h.was in
        (omega arith, low d h.claimed.0)

  rose_on : (c : ℕ) (b : Bool) → is_backed (stage c) ≡ b → IsTakenBack first f.stages c
      → (new.words.was c < least_now b c) × (least_now b c ≤ new.words.update (new.words.p c))
  rose_on c true e taken =
      let was = old.rose c (taken.0, e) in
      let info = f.words.info c (before_low c (taken.0, e)) in
      let up = f.words.update (m.words.p c) in
      let there = ap new.words.update info.p in
      let same = info.was in
      let one = was.0 in
      let two = was.1 in
      (omega arith, omega arith)
  rose_on c false e taken = ((f.invariant.words.deletes c).unmarkable (backed-unmarkable (f.stages c) taken.1).0, omega arith)

  reads_after : (j c : ℕ) (b : Bool) → is_backed (stage c) ≡ b → IsTakenBack first f.stages c
      → ReadsAfter (least_now b c) (new.words.gp c) (new.words.p c) c (new.worker j).search
  reads_after j c true e taken = reads_still c (taken.0, e) j
  reads_after j c false e taken = reads_none c e taken.1 j (new.words.update (new.words.p c))

  later_on : (c d : ℕ) (b : Bool) → is_backed (stage c) ≡ b → IsTakenBack first f.stages c → delete_won (f.stages d) ≡ true → c < d
      → new.words.gp d ≡ new.words.gp c → new.words.p d ≡ new.words.p c → least_now b c ≤ new.words.was d
  later_on c d false e taken won after at below = absurd (none_later c e taken.1 d won after at)
  later_on c d true e taken won after at below = by (delete_won (stage d)) refl
    where
      was_taken : IsTakenBack first stage c
      was_taken = (taken.0, e)

      info : c < m.words.next
      info = before_low c was_taken

      by : (b : Bool) → delete_won (stage d) ≡ b → old.least c ≤ new.words.was d
      by true is =
          let here = f.words.info d (low d (delete_won-delete (stage d) is)) in
          let there = f.words.info c info in
          let more = old.later c d was_taken is after (sym here.gp ∙ (at ∙ there.gp)) (sym here.p ∙ (below ∙ there.p)) in
          let same = here.was in
          omega arith
      by false is =
          let some = won-sum (f.stages d) won in
          let wins = act_flag a (scene m i) said becomes row d (added (sum_by delete_flags (wins_by a hand said d)) refl) in
          let h : DeleteInHand m.words stage (m.worker i) wins.key d = (invariant.workers.each i).unflagged (Delete wins.key) d wins.deletes wins.holds wins.unflagged in
          let here = f.words.info d (low d h.claimed.0) in
          let there = f.words.info c info in
          let more = sets_flag c was_taken d wins (sym here.gp ∙ (at ∙ there.gp)) (sym here.p ∙ (below ∙ there.p)) in
          let least = more.0 in
          let same = here.was in
          omega arith
        where
          added : (n : ℕ) → sum_by delete_flags (wins_by a hand said d) ≡ n → 0 < sum_by delete_flags (wins_by a hand said d)
          added zero none =
              let same = sum_same delete_flags (stage d) (f.stages d) (wins_by a hand said d) (f.wins d) none in
              let some = won-sum (f.stages d) won in
              absurd (false≢true (sym is ∙ sum-won (stage d) (omega arith)))
          added (suc n) e = omega arith

  came_from : (c : ℕ) (b : Bool) → is_backed (stage c) ≡ b → IsTakenBack first f.stages c
      → (IsTakenBack first stage c × (least_now b c ≡ old.least c)) ⊎ ((least_now b c ≡ new.words.update (new.words.p c)) × (delete_waits (stage c) ≡ true))
  came_from c true e taken = inl ((taken.0, e), refl)
  came_from c false e taken = inr (refl, waited c e taken.1)

  act_keeps : Keeps first m.words stage m.worker old new.words f.stages new.worker
  act_keeps = record {
    backtracks = record {
      least = λ c. least_now (is_backed (stage c)) c;
      rose = λ c taken. rose_on c (is_backed (stage c)) refl taken;
      reads = λ j c taken. reads_after j c (is_backed (stage c)) refl taken;
      later = λ c d taken won after at below. later_on c d (is_backed (stage c)) refl taken won after at below;
    };
    from = λ c taken. came_from c (is_backed (stage c)) refl taken;
  }

-- what an event leaves of it
pub events_keep : (first : Stages) (m : Machine) (stage : Stages) (e : Event) (said : Stepped) (m' : Machine) → Invariant m stage → Steps m e said m'
    → (f : Follows m stage e.act e.worker said m') → (old : Backtracks first m.words stage m.worker)
    → Keeps first m.words stage m.worker old m'.words f.stages m'.worker
events_keep first m stage e said m' invariant h =
    subst (λ (n : Machine). (f : Follows m stage e.act e.worker said n) → (old : Backtracks first m.words stage m.worker)
    → Keeps first m.words stage m.worker old n.words f.stages n.worker) (sym h.gives)
    (λ f old. act_keeps first m stage invariant e.act e.worker said h.becomes h.happens.row f old)

-- and where words and stages are the same, and each worker's search, but for such as have nothing in hand
pub rests_keep : (first : Stages) (w : Words) (stage : Stages) (worker after : ℕ → Worker) → ((j : ℕ) → ((after j).search.parent ≡ None) ⊎ (after j ≡ worker j))
    → (old : Backtracks first w stage worker) → Keeps first w stage worker old w stage after
rests_keep first w stage worker after rests old = record {
  backtracks = record {
    least = old.least;
    rose = old.rose;
    reads = λ j c taken. elim (rests j) [
      | inl none ↦ reads_afresh (old.least c) (w.gp c) (w.p c) c (after j).search none
      | inr same ↦ subst (λ (v : Worker). ReadsAfter (old.least c) (w.gp c) (w.p c) c v.search) (sym same) (old.reads j c taken)
    ];
    later = old.later;
  };
  from = λ c taken. inl (taken, refl);
}

-- before anything was taken back
pub none_back : (stage : Stages) (w : Words) (worker : ℕ → Worker) → Backtracks stage w stage worker
none_back stage w worker = record {
  least = λ c. 0;
  rose = λ c taken. absurd (never c taken);
  reads = λ j c taken. absurd (never c taken);
  later = λ c d taken won after at below. absurd (never c taken);
}
  where
    never : (c : ℕ) → IsTakenBack stage stage c → ⊥
    never c taken = false≢true (sym taken.0 ∙ backed-won (stage c) taken.1)
