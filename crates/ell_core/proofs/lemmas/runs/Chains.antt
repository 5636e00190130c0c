use Rattle.std.proofs.Common.{◌≡◌, ℕ, ◌<◌, ◌≤◌, ◌⊎◌, inl, ◌∙◌, arith}
use Rattle.ell_layout.specs.Words.{Words}
use Rattle.ell_layout.specs.Cards.{marked}
use Rattle.ell_core.specs.history.Stages.{Stages}
use Rattle.ell_core.specs.history.Later.{SameInfo, SameNode, WordsLater, StagesLater}

-- where a card goes stays over two steps
same_info : (a b c : Words) (d : ℕ) → SameInfo a b d → SameInfo b c d → SameInfo a c d
same_info a b c d h g = record { gp = g.gp ∙ h.gp; p = g.p ∙ h.p; l = g.l ∙ h.l; expects = g.expects ∙ h.expects; was = g.was ∙ h.was }

-- a node stays over two steps
same_node : (a b c : Words) (x : ℕ) → SameNode a b x → SameNode b c x → SameNode a c x
same_node a b c x h g = record { update = g.update ∙ h.update; child = λ right. g.child right ∙ h.child right; tag = λ right. g.tag right ∙ h.tag right }

-- words that are later than later ones are later
pub words_later : (a b c : Words) → WordsLater a b → WordsLater b c → WordsLater a c
words_later a b c h g = record {
  flat = g.flat ∙ h.flat;
  next = (let x = h.next in let y = g.next in omega arith);
  tag = λ x right. (let l = h.tag x right in let r = g.tag x right in omega arith);
  child = λ x right below same.
      let l = h.tag x right in let r = g.tag x right in
      let first : b.tag x right ≡ a.tag x right = omega arith in
      let second : c.tag x right ≡ b.tag x right = omega arith in
      let more = h.next in
      g.child x right (omega arith) second ∙ h.child x right below first;
  some = λ x right there. g.some x right (h.some x right there);
  update = λ x. (let l = h.update x in let r = g.update x in omega arith);
  info = λ d below. same_info a b c d (h.info d below) (g.info d (let x = h.next in omega arith));
  key = λ x below. g.key x (let l = h.next in omega arith) ∙ h.key x below;
  value = λ x below. g.value x (let l = h.next in omega arith) ∙ h.value x below;
  frozen = λ x d mark. (let first = h.frozen x d mark in same_node a b c x first (g.frozen x d (first.update ∙ mark)));
}

-- stages that are later than later ones are later
pub stages_later : (a b c : Stages) → StagesLater a b → StagesLater b c → StagesLater a c
stages_later a b c h g = record {
  start = λ d. g.start d ∙ h.start d;
  insert = λ d e. g.insert d (h.insert d e);
  delete = λ d e. g.delete d (h.delete d e);
  born = λ x e. g.born x (h.born x e);
  told = λ fact d e. g.told fact d (h.told fact d e);
}

-- a mark of a card that was claimed stood already, or was set over a word at most the one that the card's search read
abbrev pub MarksLater : Words → Words → Type 0
MarksLater old new = (x c : ℕ) → c < old.next → new.update x ≡ marked c → (old.update x ≡ marked c) ⊎ (old.update x ≤ old.was c)

-- marks of words that did not change are later
pub marks_same : (w : Words) → MarksLater w w
marks_same w x c below mark = inl mark
