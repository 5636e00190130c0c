-- Each turn of the loop is a turn of the walk, and the loop ends where no node waits.
use Rattle.std.proofs.Common.{rules, ◌≡◌, ℕ, List, [], ◌∷◌, ◌++◌, if◌then◌else◌, Result, Ok, Err, is_ok, length-append, arith, ap, ap₂, sym, subst, subst₂, ◌∙◌}
use Rattle.std.specs.Prelude.{vec_capacity}
use Rattle.std.proofs.lemmas.List.{nil_from_length}
use Rattle.ell_word.specs.Node.{IsInternal}
use Rattle.ell_layout.specs.Words.{IsLeaf}
use Rattle.ell_core.proofs.lemmas.tree.Walk.{Walked, Turned, Walked-begin, Walked-top, Walked-room, Walked-length, Walked-over, Turned-inner, Turned-real, Turned-infinite}
use Rattle.ell_core.proofs.keys.pairs_of_tree.Given.{Over}
use Rattle.ell_core.proofs.keys.pairs_of_tree.Goals as goal
use Rattle.ell_core.proofs.keys.pairs_of_tree.Goals.{After-unwrap-then-is_internal-2, After-unwrap-then-key-le-KEY_MAX, Else-key-le-KEY_MAX}

-- a push that succeeded has put its item at the end
pushed : {X T E : Type 0} (r : Result T E) (u : T) (more same new : List X) → r ≡ Ok u → new ≡ (if is_ok r then more else same) → new ≡ more
pushed (Ok x) u more same new ok items = items
pushed (Err e) u more same new ok items = cc

pub loop-node-init : goal.loop-node-init
loop-node-init g c =
    let w = g.T.TreeWords.words c.args.tree.now in
    let on_stack : c.push.new.self.items ≡ 0 ∷ [] =
    pushed c.push.result c.unwrap.result (c.args.waiting.items ++ 0 ∷ []) c.args.waiting.items c.push.new.self.items c.unwrap.ensures
    c.push.ensures.items ∙ ap (λ items. items ++ 0 ∷ []) c.requires.no_nodes in record {
      walked = subst₂ (Walked w (vec_capacity c.args.waiting)) (sym on_stack) (sym c.requires.no_pairs)
          (Walked-begin w (vec_capacity c.args.waiting) c.requires.lawful c.requires.room);
      room = c.push.ensures.capacity;
      pairs_room = omega arith;
    }

pub child-requires-clause-read : goal.child-requires-clause-read
child-requires-clause-read g c =
    c.requires.readable c.in-Some.node
    (Walked-top (g.T.TreeWords.words c.args.tree.now) (vec_capacity c.args.waiting) c.requires.lawful c.requires.room c.in-Some.node
    c.loop-node.waiting.items c.pop.new.self.items c.loop-node.pairs.items c.loop-node.invariant.walked c.in-Some.ensures.items)

pub child-requires-then-is_internal-clause-read : goal.child-requires-then-is_internal-clause-read
child-requires-then-is_internal-clause-read g c =
    c.requires.readable c.in-Some.node
    (Walked-top (g.T.TreeWords.words c.args.tree.now) (vec_capacity c.args.waiting) c.requires.lawful c.requires.room c.in-Some.node
    c.loop-node.waiting.items c.pop.new.self.items c.loop-node.pairs.items c.loop-node.invariant.walked c.in-Some.ensures.items)

pub key-key-requires : goal.key-key-requires
key-key-requires g c =
    c.requires.readable c.in-Some.node
    (Walked-top (g.T.TreeWords.words c.args.tree.now) (vec_capacity c.args.waiting) c.requires.lawful c.requires.room c.in-Some.node
    c.loop-node.waiting.items c.pop.new.self.items c.loop-node.pairs.items c.loop-node.invariant.walked c.in-Some.ensures.items)

pub value-requires-clause-read : goal.value-requires-clause-read
value-requires-clause-read g c =
    c.requires.readable c.in-Some.node
    (Walked-top (g.T.TreeWords.words c.args.tree.now) (vec_capacity c.args.waiting) c.requires.lawful c.requires.room c.in-Some.node
    c.loop-node.waiting.items c.pop.new.self.items c.loop-node.pairs.items c.loop-node.invariant.walked c.in-Some.ensures.items)

-- both children have room
pub unwrap-requires-then-is_internal-2 : goal.unwrap-requires-then-is_internal-2
unwrap-requires-then-is_internal-2 g c =
    let w = g.T.TreeWords.words c.args.tree.now in
    let inner : IsInternal c.in-Some.node = search rules in
    let room = Walked-room w (vec_capacity c.args.waiting) c.requires.lawful c.requires.room c.in-Some.node c.loop-node.waiting.items
    c.pop.new.self.items c.loop-node.pairs.items c.loop-node.invariant.walked c.in-Some.ensures.items inner in
    c.push-then-is_internal-2.ensures.succeeds
    (omega (
      arith,
      room,
      c.pop.new.self.ok,
      c.pop.ensures.capacity,
      c.push-then-is_internal.ensures.upper_bound,
      c.push-then-is_internal.ensures.capacity,
      c.loop-node.invariant.room,
    ))

-- the turn at an internal node
at_inner : (g : Over) (c : After-unwrap-then-is_internal-2 g) → Turned (g.T.TreeWords.words c.args.tree.now) (vec_capacity c.args.waiting)
    c.loop-node.waiting.items c.push-then-is_internal-2.new.self.items c.loop-node.pairs.items
at_inner g c =
    let w = g.T.TreeWords.words c.args.tree.now in
    let rest = c.pop.new.self.items in
    let inner : IsInternal c.in-Some.node = search rules in
    let first = pushed c.push-then-is_internal.result c.unwrap-then-is_internal.result (rest ++ c.child.result ∷ []) rest
    c.push-then-is_internal.new.self.items c.unwrap-then-is_internal.ensures c.push-then-is_internal.ensures.items in
    let second = pushed c.push-then-is_internal-2.result c.unwrap-then-is_internal-2.result
    (c.push-then-is_internal.new.self.items ++ c.child-then-is_internal.result ∷ []) c.push-then-is_internal.new.self.items
    c.push-then-is_internal-2.new.self.items c.unwrap-then-is_internal-2.ensures c.push-then-is_internal-2.ensures.items in
    subst (λ stack. Turned w (vec_capacity c.args.waiting) c.loop-node.waiting.items stack c.loop-node.pairs.items)
    (sym (second ∙ ap₂ (λ items x. items ++ x ∷ []) (first ∙ ap (λ x. rest ++ x ∷ []) c.child.ensures) c.child-then-is_internal.ensures))
    (Turned-inner w (vec_capacity c.args.waiting) c.requires.lawful c.requires.room c.in-Some.node c.loop-node.waiting.items rest
    c.loop-node.pairs.items c.loop-node.invariant.walked c.in-Some.ensures.items inner)

pub loop-node-preserved-then-is_internal : goal.loop-node-preserved-then-is_internal
loop-node-preserved-then-is_internal g c = record {
  walked = (at_inner g c).walked;
  room = omega (
    arith,
    c.loop-node.invariant.room,
    c.pop.ensures.capacity,
    c.push-then-is_internal.ensures.capacity,
    c.push-then-is_internal-2.ensures.capacity,
  );
  pairs_room = c.loop-node.invariant.pairs_room;
}

pub loop-node-smaller-then-is_internal : goal.loop-node-smaller-then-is_internal
loop-node-smaller-then-is_internal g c = (at_inner g c).less

-- the pair has room, since the walk with it has no more pairs than the tree has keys
pub unwrap-requires-then-key-le-KEY_MAX : goal.unwrap-requires-then-key-le-KEY_MAX
unwrap-requires-then-key-le-KEY_MAX g c =
    let w = g.T.TreeWords.words c.args.tree.now in
    let rest = c.pop.new.self.items in
    let pairs = c.loop-node.pairs.items in
    let pair : ℕ × ℕ = (c.key-key.result, c.value.result) in
    let outer : IsLeaf c.in-Some.node = search rules in
    let turned = Turned-real w (vec_capacity c.args.waiting) c.requires.lawful c.requires.room c.in-Some.node c.key-key.result c.value.result c.loop-node.waiting.items
    rest pairs c.loop-node.invariant.walked c.in-Some.ensures.items outer c.key-key.ensures c.value.ensures c.if-key-le-KEY_MAX.true in
    let most = Walked-length w (vec_capacity c.args.waiting) c.requires.lawful c.requires.room rest (pairs ++ pair ∷ []) (vec_capacity c.args.pairs)
    turned.walked c.requires.pairs_room in
    c.push-then-key-le-KEY_MAX.ensures.succeeds
    (omega (arith, most, length-append pairs (pair ∷ []), c.loop-node.pairs.ok, c.loop-node.invariant.pairs_room))

-- the turn at a leaf of a real key
at_real : (g : Over) (c : After-unwrap-then-key-le-KEY_MAX g) → Turned (g.T.TreeWords.words c.args.tree.now) (vec_capacity c.args.waiting)
    c.loop-node.waiting.items c.pop.new.self.items c.push-then-key-le-KEY_MAX.new.self.items
at_real g c =
    let w = g.T.TreeWords.words c.args.tree.now in
    let pairs = c.loop-node.pairs.items in
    let outer : IsLeaf c.in-Some.node = search rules in
    subst (Turned w (vec_capacity c.args.waiting) c.loop-node.waiting.items c.pop.new.self.items)
    (sym (pushed c.push-then-key-le-KEY_MAX.result c.unwrap-then-key-le-KEY_MAX.result (pairs ++ (c.key-key.result, c.value.result) ∷ []) pairs
    c.push-then-key-le-KEY_MAX.new.self.items c.unwrap-then-key-le-KEY_MAX.ensures c.push-then-key-le-KEY_MAX.ensures.items))
    (Turned-real w (vec_capacity c.args.waiting) c.requires.lawful c.requires.room c.in-Some.node c.key-key.result c.value.result c.loop-node.waiting.items
    c.pop.new.self.items pairs c.loop-node.invariant.walked c.in-Some.ensures.items outer c.key-key.ensures c.value.ensures c.if-key-le-KEY_MAX.true)

pub loop-node-preserved-then-key-le-KEY_MAX : goal.loop-node-preserved-then-key-le-KEY_MAX
loop-node-preserved-then-key-le-KEY_MAX g c = record {
  walked = (at_real g c).walked;
  room = omega (arith, c.loop-node.invariant.room, c.pop.ensures.capacity);
  pairs_room = omega (arith, c.loop-node.invariant.pairs_room, c.push-then-key-le-KEY_MAX.ensures.capacity);
}

pub loop-node-smaller-then-key-le-KEY_MAX : goal.loop-node-smaller-then-key-le-KEY_MAX
loop-node-smaller-then-key-le-KEY_MAX g c = (at_real g c).less

-- the turn at a leaf of an infinite key
at_infinite : (g : Over) (c : Else-key-le-KEY_MAX g) → Turned (g.T.TreeWords.words c.args.tree.now) (vec_capacity c.args.waiting)
    c.loop-node.waiting.items c.pop.new.self.items c.loop-node.pairs.items
at_infinite g c =
    let w = g.T.TreeWords.words c.args.tree.now in
    let outer : IsLeaf c.in-Some.node = search rules in
    Turned-infinite w (vec_capacity c.args.waiting) c.requires.lawful c.requires.room c.in-Some.node c.key-key.result c.loop-node.waiting.items
    c.pop.new.self.items c.loop-node.pairs.items c.loop-node.invariant.walked c.in-Some.ensures.items outer c.key-key.ensures c.if-key-le-KEY_MAX.false

pub loop-node-preserved : goal.loop-node-preserved
loop-node-preserved g c = record {
  walked = (at_infinite g c).walked;
  room = omega (arith, c.loop-node.invariant.room, c.pop.ensures.capacity);
  pairs_room = c.loop-node.invariant.pairs_room;
}

pub loop-node-smaller : goal.loop-node-smaller
loop-node-smaller g c = (at_infinite g c).less

pub returns : goal.returns
returns g c =
    let w = g.T.TreeWords.words c.args.tree.now in
    let none : c.loop-node.waiting.items ≡ [] = nil_from_length c.loop-node.waiting.items (omega (arith, c.in_default.ensures.cases.0)) in
    Walked-over w (vec_capacity c.args.waiting) c.requires.lawful c.requires.room c.loop-node.pairs.items
    (subst (λ stack. Walked w (vec_capacity c.args.waiting) stack c.loop-node.pairs.items) none c.loop-node.invariant.walked)
