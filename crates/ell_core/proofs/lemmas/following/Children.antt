use Rattle.std.proofs.Common.{◌≡◌, ℕ, ◌<◌, ◌==◌, if◌then◌else◌, Bool, true, false, [], ◌∷◌, inl, inr, refl, ap, ◌∙◌, subst, eq-eqb, arith}
use Rattle.ell_word.specs.Node.{card}
use Rattle.ell_core.specs.declared.exchange.Exchange.{Exchange}
use Rattle.ell_core.specs.declared.exchange.Exchange.TheVariants as exchange
use Rattle.ell_core.specs.declared.event.Act.{Act}
use Rattle.ell_core.specs.declared.event.Act.TheVariants as act
use Rattle.ell_core.specs.declared.event.Event.{Event}
use Rattle.ell_core.specs.declared.event.Stepped.{Stepped}
use Rattle.ell_layout.specs.Words.{Words, with_update, relinked, is_flat}
use Rattle.ell_core.specs.state.Machine.{Machine, Scene, scene}
use Rattle.ell_layout.specs.Cards.{exchange_side, claimed, put_filling, value_below, delete_filling}
use Rattle.ell_core.specs.acts.Exchanges.{won_or_lost, exchanged_update, exchanged_child, finds_link}
use Rattle.ell_core.specs.acts.Events.{Row, Steps}
use Rattle.ell_core.specs.acts.Wins.{wins_by}
use Rattle.ell_core.proofs.lemmas.keeping.claim.Filling.{claimed_claims}
use Rattle.ell_core.proofs.lemmas.stages.Sums.{child_changes, sum_by}
use Rattle.ell_word.specs.declared.link.Link.{Link}

update_child : (w : Words) (node expected value x : ℕ) (right : Bool) → (exchanged_update w node expected value).child x right ≡ w.child x right
update_child w node expected value x right = by (w.update node == expected)
  where
    by : (b : Bool) → (if b then with_update w node value else w).child x right ≡ w.child x right
    by true = refl
    by false = refl

-- a lost exchange of a child leaves it
lost_child : (w : Words) (node : ℕ) (expected : Link) (new x : ℕ) (right : Bool) (b : Bool) → finds_link w node expected new ≡ b → b ≡ false
    → (exchanged_child w node expected new).child x right ≡ w.child x right
lost_child w node expected new x right b is lost =
    ap (λ (b : Bool). (if b then relinked w node (exchange_side w node new) new else w).child x right) (is ∙ lost)

-- a card has won the exchange that was won for it
change_won : (a : Act) (k : Exchange) (c : ℕ) (b : Bool) → child_changes k ≡ 1 → sum_by child_changes (if b then (if c == c then k ∷ [] else []) else []) ≡ 0 → b ≡ false
change_won a k c false is none = refl
change_won a k c true is none =
    let same = ap (λ (t : Bool). sum_by child_changes (if t then k ∷ [] else [])) (eq-eqb c c refl) in
    absurd (omega arith)

claim_child : (w : Words) (tag : ℕ) (filling : _) (x : ℕ) (right : Bool) → card x < w.next → (claimed w tag filling).child x right ≡ w.child x right
claim_child w tag filling x right low = (claimed_claims w tag filling).others.child x right (λ e. omega arith)

-- what an act that exchanges no child leaves of the children of nodes of claimed cards
pub row_children : (a : Act) (s : Scene) (said : Stepped) (after : Scene) → Row a s said after → ((d : ℕ) → sum_by child_changes (wins_by a s.worker.card said d) ≡ 0)
    → (x : ℕ) (right : Bool) → card x < s.words.next → after.words.child x right ≡ s.words.child x right
row_children (act.Begin op) s said after row none x right low = ap (λ (z : Scene). z.words.child x right) row.gives
row_children act.Upd s said after row none x right low = ap (λ (z : Scene). z.words.child x right) row.gives
row_children act.Down s said after row none x right low = ap (λ (z : Scene). z.words.child x right) row.gives
row_children act.Again s said after row none x right low = ap (λ (z : Scene). z.words.child x right) row.gives
row_children act.Leave s said after row none x right low = ap (λ (z : Scene). z.words.child x right) row.gives
row_children act.Answer s said after row none x right low = ap (λ (z : Scene). z.words.child x right) row.gives
row_children act.Claim s said after (inl row) none x right low = ap (λ (z : Scene). z.words.child x right) row.gives
    ∙ claim_child s.words row.parent.tag (put_filling (is_flat s.words) s.words.next row.what.key row.what.value row.node_key row.parent.node row.below (s.words.key row.below) (value_below s.words row.below)) x right low
row_children act.Claim s said after (inr row) none x right low = ap (λ (z : Scene). z.words.child x right) row.gives
    ∙ claim_child s.words row.grandparent.tag (delete_filling row.grandparent.node row.parent.node row.leaf row.parent.word) x right low
row_children act.IFlag s said after row none x right low = ap (λ (z : Scene). z.words.child x right) row.gives ∙ update_child s.words _ _ _ x right
row_children act.DFlag s said after row none x right low = ap (λ (z : Scene). z.words.child x right) row.gives ∙ update_child s.words _ _ _ x right
row_children (act.IUnflag c) s said after row none x right low = ap (λ (z : Scene). z.words.child x right) row.gives ∙ update_child s.words _ _ _ x right
row_children (act.Mark c) s said after row none x right low = ap (λ (z : Scene). z.words.child x right) row.gives ∙ update_child s.words _ _ _ x right
row_children (act.DUnflag c) s said after row none x right low = ap (λ (z : Scene). z.words.child x right) row.does.gives ∙ update_child s.words _ _ _ x right
row_children (act.Backtrack c) s said after row none x right low = ap (λ (z : Scene). z.words.child x right) row.does.gives ∙ update_child s.words _ _ _ x right
row_children (act.IChild c) s said after row none x right low =
    ap (λ (z : Scene). z.words.child x right) row.gives ∙ lost_child s.words _ _ _ x right _ refl (by _ row.says (none c))
  where
    by : (b : Bool) → said ≡ won_or_lost b → sum_by child_changes (wins_by (act.IChild c) s.worker.card said c) ≡ 0 → b ≡ false
    by false says no_win = refl
    by true says no_win = change_won (act.IChild c) exchange.IChild c true refl
        (subst (λ t. sum_by child_changes (wins_by (act.IChild c) s.worker.card t c) ≡ 0) says no_win)
row_children (act.DChild c) s said after row none x right low =
    ap (λ (z : Scene). z.words.child x right) row.gives ∙ lost_child s.words _ _ _ x right _ refl (by _ row.says (none c))
  where
    by : (b : Bool) → said ≡ won_or_lost b → sum_by child_changes (wins_by (act.DChild c) s.worker.card said c) ≡ 0 → b ≡ false
    by false says no_win = refl
    by true says no_win = change_won (act.DChild c) exchange.DChild c true refl
        (subst (λ t. sum_by child_changes (wins_by (act.DChild c) s.worker.card t c) ≡ 0) says no_win)

-- so it is of an event
pub children_stay : (m : Machine) (e : Event) (said : Stepped) (m' : Machine) → Steps m e said m'
    → ((d : ℕ) → sum_by child_changes (wins_by e.act (m.worker e.worker).card said d) ≡ 0) → (x : ℕ) (right : Bool) → card x < m.words.next
    → m'.words.child x right ≡ m.words.child x right
children_stay m e said m' h none x right low =
    ap (λ (n : Machine). n.words.child x right) h.gives ∙ row_children e.act (scene m e.worker) said h.becomes h.happens.row none x right low
