use Rattle.std.proofs.Common.{◌≡◌, ℕ, ◌<◌, ◌==◌, Bool, true, Option, Some, None, nat_le, refl, sym, ap, ◌∙◌, subst}
use Rattle.std.proofs.lemmas.Bool.{false≢true, eq-eqb}
use Rattle.ell_ops.specs.declared.op.Op.{Op}
use Rattle.ell_ops.specs.Meaning.{key_of}
use Rattle.ell_word.specs.Node.{IsInternal}
use Rattle.ell_core.specs.declared.event.Act.{Act}
use Rattle.ell_core.specs.declared.event.Act.TheVariants as act
use Rattle.ell_core.specs.declared.event.Shown.TheVariants as shown
use Rattle.ell_core.specs.declared.event.Stepped.{Stepped}
use Rattle.ell_core.specs.declared.event.Stepped.TheVariants.{Moved, Won}
use Rattle.ell_core.specs.declared.fact.Fact.{Fact}
use Rattle.ell_core.specs.declared.fact.Fact.TheVariants.{IFlagged, IChanged, IOver, DFlagged, Marked, Cut, DOver}
use Rattle.ell_core.specs.declared.view.Seen.{Seen}
use Rattle.ell_word.specs.declared.link.Link.{Link}
use Rattle.ell_layout.specs.Words.{Words, with_update, relinked}
use Rattle.ell_layout.specs.Cards.{iflag, dflag, marked, clean, brought, child_for, exchange_side, sibling}
use Rattle.ell_core.specs.state.Facts.{learned, learned_any, told_by}
use Rattle.ell_core.specs.state.Machine.{Machine, Scene, scene, with_scene}
use Rattle.ell_core.specs.acts.Searching.{begun, with_read, gone_down}
use Rattle.ell_core.specs.acts.Exchanges.{knowing, off_the_tree, flagged_worker, flags, won_or_lost, mark_teaches, exchanged_update, exchanged_child, finds_link, expected}
use Rattle.ell_core.specs.acts.Events.{Row, LacksKey, LacksCard}
use Rattle.ell_core.specs.statements.RunLaws.{IsPassed}
use Rattle.ell_core.proofs.lemmas.words.Exchanged.{update_found, child_found}
use Rattle.ell_core.proofs.lemmas.runs.Passed.{passed_on}

-- a run goes on by an event of a worker to the state with its scene after it
pub on : (m : Machine) (i : ℕ) (a : Act) (said : Stepped) (after : Scene) → IsPassed m → i < m.count → ¬ LacksKey a (m.worker i)
    → Row a (scene m i) said after → ¬ LacksCard a m.words.next m.last_card → IsPassed (with_scene m i after)
on m i a said after passed there has row room =
    passed_on m (record { worker = i; act = a }) (shown.Step said) (with_scene m i after) passed (record {
      there = there;
      becomes = after;
      happens = record { owned = has; row = row; room = room };
      gives = refl;
    })

-- the worker takes an operation in hand
abbrev pub begins_at : Machine → ℕ → Op → Machine
begins_at m i op = with_scene m i (record (scene m i) { worker = begun (Some op) (m.worker i) })

-- so it may, if it shares the key
pub begins : (m : Machine) (i : ℕ) (op : Op) → IsPassed m → i < m.count → (m.worker i).operation ≡ None → (m.worker i).shared (key_of op) ≡ true
    → IsPassed (begins_at m i op)
begins m i op passed there free shared =
    on m i (act.Begin op) Moved (record (scene m i) { worker = begun (Some op) (m.worker i) }) passed there
    (λ lacks. false≢true (sym lacks.1 ∙ shared)) (record { free = free; says = refl; gives = refl }) (λ h. h)

-- it reads the update word where it stands
abbrev pub reads_scene : Machine → ℕ → ℕ → Option Fact → Scene
reads_scene m i word told = record (scene m i) {
  worker = record (m.worker i) { search = with_read (m.worker i).search word; knows = learned_any (m.worker i).knows told };
}

-- so it may at an internal node
pub reads : (m : Machine) (i node word : ℕ) (told : Option Fact) → IsPassed m → i < m.count → (m.worker i).search.node ≡ Some node → IsInternal node
    → (m.worker i).search.read ≡ None → m.words.update node ≡ word → told_by word ≡ told → IsPassed (with_scene m i (reads_scene m i word told))
reads m i node word told passed there stands inner unread found tells =
    on m i act.Upd Moved (reads_scene m i word told) passed there (λ h. h)
    (record {
      node = node;
      stands = stands;
      internal = inner;
      unread = unread;
      says = refl;
      gives = sym (ap (λ u. reads_scene m i u (told_by u)) found ∙ ap (reads_scene m i word) tells);
    }) (λ h. h)

-- it goes down to a child
abbrev pub down_scene : Machine → ℕ → Seen → ℕ → Scene
down_scene m i seen child = record (scene m i) { worker = record (m.worker i) { search = gone_down (m.worker i).search seen child } }

-- so it may once it has read
pub goes_down : (m : Machine) (i : ℕ) (op : Op) (seen : Seen) (child : ℕ) → IsPassed m → i < m.count → (m.worker i).operation ≡ Some op
    → (m.worker i).search.node ≡ Some seen.node → IsInternal seen.node → (m.worker i).search.read ≡ Some seen.word → (m.worker i).card ≡ None
    → seen.tag ≡ m.words.tag seen.node (nat_le (m.words.key seen.node) (key_of op)) → child_for m.words (key_of op) seen.node ≡ child
    → IsPassed (with_scene m i (down_scene m i seen child))
goes_down m i op seen child passed there busy stands inner read no_card tagged finds =
    on m i act.Down Moved (down_scene m i seen child) passed there (λ h. h)
    (record {
      op = op;
      seen = seen;
      busy = busy;
      stands = stands;
      internal = inner;
      read = read;
      no_card = no_card;
      tagged = tagged;
      says = refl;
      gives = sym (ap (down_scene m i seen) finds);
    }) (λ h. h)

-- a flag is won
abbrev pub flag_scene : Machine → ℕ → ℕ → ℕ → Fact → Scene
flag_scene m i node new fact = record {
  words = with_update m.words node new;
  worker = record (off_the_tree (m.worker i).card true (m.worker i)) { knows = learned (m.worker i).knows fact };
}

-- so it is where the word that was read there still stands
pub flag_won : (m : Machine) (i : ℕ) (seen : Seen) (new : ℕ) (fact : Fact) → m.words.update seen.node ≡ seen.word
    → (Won ≡ won_or_lost (m.words.update seen.node == seen.word)) × (flag_scene m i seen.node new fact ≡ flags (scene m i) seen new fact)
flag_won m i seen new fact found =
    let test = eq-eqb (m.words.update seen.node) seen.word found in
    let exchange = update_found m.words seen.node seen.word new found in (
      sym exchange.0,
      sym (ap (λ (w : Words). record { words = w; worker = flagged_worker (m.worker i) (m.words.update seen.node == seen.word) fact (m.words.update seen.node) }) exchange.1
          ∙ ap (λ b. record { words = with_update m.words seen.node new; worker = flagged_worker (m.worker i) b fact (m.words.update seen.node) }) test),
    )

-- an update word is exchanged, and a fact learnt
abbrev pub update_scene : Machine → ℕ → ℕ → ℕ → Fact → Scene
update_scene m i node new fact = record {
  words = with_update m.words node new;
  worker = knowing (m.worker i) (learned (m.worker i).knows fact);
}

-- a child is exchanged, and a fact learnt
abbrev pub child_scene : Machine → ℕ → ℕ → Bool → ℕ → Fact → Scene
child_scene m i node right new fact = record {
  words = relinked m.words node right new;
  worker = knowing (m.worker i) (learned (m.worker i).knows fact);
}

-- an update word that is found is exchanged
update_won : (w : Words) (x p expected new : ℕ) → x ≡ p → w.update p ≡ expected
    → (Won ≡ won_or_lost (w.update x == expected)) × (with_update w p new ≡ exchanged_update w x expected new)
update_won w x p expected new at found =
    let core = update_found w p expected new found in
    subst (λ y. (Won ≡ won_or_lost (w.update y == expected)) × (with_update w p new ≡ exchanged_update w y expected new)) (sym at)
    (sym core.0, sym core.1)

-- and so is a child word
child_won : (w : Words) (x n p q : ℕ) (right : Bool) (expected : Link) → x ≡ p → n ≡ q → exchange_side w p q ≡ right → w.tag p right ≡ expected.tag
    → w.child p right ≡ expected.node
    → (Won ≡ won_or_lost (finds_link w x expected n)) × (relinked w p right q ≡ exchanged_child w x expected n)
child_won w x n p q right expected at brings side tag child =
    let core = child_found w p expected q (ap (w.tag p) side ∙ tag) (ap (w.child p) side ∙ child) in
    subst (λ y. (Won ≡ won_or_lost (finds_link w y expected n)) × (relinked w p right q ≡ exchanged_child w y expected n)) (sym at)
    (subst (λ z. (Won ≡ won_or_lost (finds_link w p expected z)) × (relinked w p right q ≡ exchanged_child w p expected z)) (sym brings)
    (sym core.0, sym (core.1 ∙ ap (λ s. relinked w p s q) side)))

-- the child of an insert's parent is exchanged
pub changes : (m : Machine) (i c p q : ℕ) (right : Bool) → IsPassed m → i < m.count → (m.worker i).knows (IFlagged c) ≡ true → m.words.p c ≡ p
    → brought m.words c ≡ q → exchange_side m.words p q ≡ right → m.words.tag p right ≡ m.words.expects c → m.words.child p right ≡ m.words.l c
    → IsPassed (with_scene m i (child_scene m i p right q (IChanged c)))
changes m i c p q right passed there may at brings side tag child =
    let won = child_won m.words (m.words.p c) (brought m.words c) p q right (expected m.words c (m.words.l c)) at brings side tag child in
    on m i (act.IChild c) Won (child_scene m i p right q (IChanged c)) passed there (λ h. h)
    (record {
      may = may;
      says = won.0;
      gives = ap (λ (w : Words). record { words = w; worker = knowing (m.worker i) (learned (m.worker i).knows (IChanged c)) }) won.1;
    }) (λ h. h)

-- the flag of an insert is taken away
pub unflags : (m : Machine) (i c p : ℕ) → IsPassed m → i < m.count → (m.worker i).knows (IChanged c) ≡ true → m.words.p c ≡ p
    → m.words.update p ≡ iflag c → IsPassed (with_scene m i (update_scene m i p (clean c) (IOver c)))
unflags m i c p passed there may at found =
    let won = update_won m.words (m.words.p c) p (iflag c) (clean c) at found in
    on m i (act.IUnflag c) Won (update_scene m i p (clean c) (IOver c)) passed there (λ h. h)
    (record {
      may = may;
      says = won.0;
      gives = ap (λ (w : Words). record { words = w; worker = knowing (m.worker i) (learned (m.worker i).knows (IOver c)) }) won.1;
    }) (λ h. h)

-- the parent of a delete is marked
pub marks : (m : Machine) (i c p : ℕ) → IsPassed m → i < m.count → (m.worker i).knows (DFlagged c) ≡ true → m.words.p c ≡ p
    → m.words.update p ≡ m.words.was c → IsPassed (with_scene m i (update_scene m i p (marked c) (Marked c)))
marks m i c p passed there may at found =
    let won = update_won m.words (m.words.p c) p (m.words.was c) (marked c) at found in
    let test = eq-eqb (m.words.update (m.words.p c)) (m.words.was c) (ap m.words.update at ∙ found) in
    on m i (act.Mark c) Won (update_scene m i p (marked c) (Marked c)) passed there (λ h. h)
    (record {
      may = may;
      says = won.0;
      gives = ap (λ (w : Words). record { words = w; worker = knowing (m.worker i) (learned (m.worker i).knows (Marked c)) }) won.1
          ∙ sym (ap (λ b. record {
            words = exchanged_update m.words (m.words.p c) (m.words.was c) (marked c);
            worker = knowing (m.worker i) (mark_teaches (m.worker i).knows c b (m.words.update (m.words.p c)));
          }) test);
    }) (λ h. h)

-- the sibling comes in the place of the parent
pub cuts : (m : Machine) (i c gp s : ℕ) (right : Bool) → IsPassed m → i < m.count → (m.worker i).knows (Marked c) ≡ true → m.words.gp c ≡ gp
    → sibling m.words c ≡ s → exchange_side m.words gp s ≡ right → m.words.tag gp right ≡ m.words.expects c → m.words.child gp right ≡ m.words.p c
    → IsPassed (with_scene m i (child_scene m i gp right s (Cut c)))
cuts m i c gp s right passed there may at brings side tag child =
    let won = child_won m.words (m.words.gp c) (sibling m.words c) gp s right (expected m.words c (m.words.p c)) at brings side tag child in
    on m i (act.DChild c) Won (child_scene m i gp right s (Cut c)) passed there (λ h. h)
    (record {
      may = may;
      says = won.0;
      gives = ap (λ (w : Words). record { words = w; worker = knowing (m.worker i) (learned (m.worker i).knows (Cut c)) }) won.1;
    }) (λ h. h)

-- the flag of a delete is taken away
pub ends : (m : Machine) (i c gp : ℕ) → IsPassed m → i < m.count → (m.worker i).knows (Cut c) ≡ true → m.words.gp c ≡ gp
    → m.words.update gp ≡ dflag c → IsPassed (with_scene m i (update_scene m i gp (clean c) (DOver c)))
ends m i c gp passed there may at found =
    let won = update_won m.words (m.words.gp c) gp (dflag c) (clean c) at found in
    on m i (act.DUnflag c) Won (update_scene m i gp (clean c) (DOver c)) passed there (λ h. h)
    (record {
      may = may;
      does = record {
        says = won.0;
        gives = ap (λ (w : Words). record { words = w; worker = knowing (m.worker i) (learned (m.worker i).knows (DOver c)) }) won.1;
      };
    }) (λ h. h)
