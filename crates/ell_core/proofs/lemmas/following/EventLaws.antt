use Rattle.std.proofs.Common.{◌≡◌, ℕ, ◌≤◌, ◌↔◌, Bool, true, false, List, refl, sym, ap, subst, inl, inr}
use Rattle.ell_ops.specs.Meaning.{greatest_key}
use Rattle.ell_core.specs.declared.event.Act.{Act}
use Rattle.ell_core.specs.declared.event.Act.TheVariants as act
use Rattle.ell_core.specs.declared.event.Event.{Event}
use Rattle.ell_core.specs.declared.event.Stepped.{Stepped}
use Rattle.ell_core.specs.declared.event.Stepped.TheVariants.{Moved, Won, Lost, Answered}
use Rattle.ell_layout.specs.Words.{Words, is_flat}
use Rattle.ell_core.specs.state.Machine.{Machine, Scene, scene, with_scene}
use Rattle.ell_core.specs.declared.fact.Fact.TheVariants.{Marked}
use Rattle.ell_layout.specs.declared.field.Field.{Field}
use Rattle.ell_layout.specs.Cards.{card_key, card_value, is_replace_card, claimed, put_filling, value_below, delete_filling}
use Rattle.ell_core.specs.acts.Searching.{claims}
use Rattle.ell_core.specs.acts.Exchanges.{won_or_lost, IChild}
use Rattle.ell_core.specs.acts.Events.{Row, Happens, Steps}
use Rattle.ell_core.specs.history.Stages.{Stages, IClaimed, is_insert, is_delete}
use Rattle.ell_core.specs.history.Invariant.{Invariant, WordsAreSound, TreeIsSound, LeadsToValue, insert_key, insert_value, delete_key}
use Rattle.ell_core.specs.history.Later.{Follows}
use Rattle.ell_core.specs.statements.Effects.{MakesChange, op_brought, op_of_card, TakesPair, PairsChange, SamePairs}
use Rattle.ell_core.proofs.lemmas.following.TreeKeys.{KeepsLinks, row_links, links_keep, pairs_same, pairs_more, pairs_replaced, pairs_less}
use Rattle.ell_core.proofs.lemmas.keeping.claim.Filling.{claimed_claims}
use Rattle.ell_core.proofs.lemmas.keeping.claim.Frames.{Claiming, leads_kept, leads_before}
use Rattle.ell_core.proofs.lemmas.keeping.insert_child.IChild.{ichild_won-waits, ichild_won-brings, ichild_lost-same, BringsKey}
use Rattle.ell_core.proofs.lemmas.keeping.delete_child.DChild.{dchild-loses_pair, dchild-lost_same}
use Rattle.ell_core.proofs.lemmas.stages.Holding.{insert_kind, delete_kind}
use Rattle.ell_core.proofs.lemmas.stages.Order.{marked-delete}
use Rattle.ell_core.proofs.lemmas.words.Sides.{card_key-insert, card_value-insert, card_key-delete, card_value-delete, delete_value}
use Rattle.ell_core.proofs.lemmas.stages.LaterKeys.{root_born}
use Rattle.ell_ops.specs.declared.reply.Reply.{Reply}

-- the keys stay where an act keeps the links
same_keys : (m : Machine) (stage : Stages) (a : Act) (i : ℕ) (said : Stepped) (becomes : Scene) → KeepsLinks a → Invariant m stage
    → Row a (scene m i) said becomes → Follows m stage a i said (with_scene m i becomes) → SamePairs m.words becomes.words
same_keys m stage a i said becomes links invariant row after =
    pairs_same m.words becomes.words stage after.stages invariant.words.tree after.invariant.words.tree
    (λ k v. links_keep m.words becomes.words (row_links a links (scene m i) said becomes row) k v 0)

-- the same walks lead to keys after a claim
claim_leads : (w : Words) (stage : Stages) (tag : ℕ) (filling : List (Field × ℕ)) → WordsAreSound w stage → (k v : ℕ)
    → LeadsToValue (claimed w tag filling) k v 0 ↔ LeadsToValue w k v 0
claim_leads w stage tag filling sound k v =
    let claiming : Claiming w (claimed w tag filling) stage IClaimed = record { words = sound; claims = claimed_claims w tag filling; fresh = inl refl } in
    let root = root_born w stage sound in
    (leads_before w (claimed w tag filling) stage IClaimed claiming k v 0 root, leads_kept w (claimed w tag filling) stage IClaimed claiming k v 0 root)

-- the keys stay after a scene that is said to be this claim's
claimed_keys : (m : Machine) (stage : Stages) (i : ℕ) (said : Stepped) (becomes : Scene) (tag : ℕ) (filling : List (Field × ℕ)) → Invariant m stage
    → becomes ≡ claims (scene m i) tag filling → Follows m stage act.Claim i said (with_scene m i becomes) → SamePairs m.words becomes.words
claimed_keys m stage i said becomes tag filling invariant is after =
    pairs_same m.words becomes.words stage after.stages invariant.words.tree after.invariant.words.tree
    (λ k v. subst (λ (s : Scene). LeadsToValue s.words k v 0 ↔ LeadsToValue m.words k v 0) (sym is) (claim_leads m.words stage tag filling invariant.words k v))

-- a claim keeps the keys
claim_keys : (m : Machine) (stage : Stages) (i : ℕ) (said : Stepped) (becomes : Scene) → Invariant m stage
    → Row act.Claim (scene m i) said becomes → Follows m stage act.Claim i said (with_scene m i becomes) → SamePairs m.words becomes.words
claim_keys m stage i said becomes invariant (inl row) after =
    claimed_keys m stage i said becomes row.parent.tag (put_filling (is_flat m.words) m.words.next row.what.key row.what.value row.node_key row.parent.node row.below (m.words.key row.below) (value_below m.words row.below)) invariant row.gives after
claim_keys m stage i said becomes invariant (inr row) after =
    claimed_keys m stage i said becomes row.grandparent.tag (delete_filling row.grandparent.node row.parent.node row.leaf row.parent.word) invariant row.gives after

-- words that did not change have the same keys
same_words-keys : (old new : Words) → new ≡ old → SamePairs old new
same_words-keys old new same = subst (SamePairs old) (sym same) (λ k v. (λ h. h, λ h. h))

-- the key of an insert's card, and of a delete's
insert_card_key : (m : Machine) (stage : Stages) (c : ℕ) → Invariant m stage → is_insert (stage c) ≡ true → card_key m.words c ≡ insert_key m.words c
insert_card_key m stage c invariant h = card_key-insert m.words c (insert_kind m.words stage invariant.words c h)

delete_card_key : (m : Machine) (stage : Stages) (c : ℕ) → Invariant m stage → is_delete (stage c) ≡ true → card_key m.words c ≡ delete_key m.words c
delete_card_key m stage c invariant h = card_key-delete m.words c (delete_kind m.words stage invariant.words c h)

-- the value of an insert's card, and of a delete's
insert_card_value : (m : Machine) (stage : Stages) (c : ℕ) → Invariant m stage → is_insert (stage c) ≡ true → card_value m.words c ≡ insert_value m.words c
insert_card_value m stage c invariant h = card_value-insert m.words c (insert_kind m.words stage invariant.words c h)

delete_card_value : (m : Machine) (stage : Stages) (c : ℕ) → Invariant m stage → is_delete (stage c) ≡ true → card_value m.words c ≡ delete_value m.words c
delete_card_value m stage c invariant h = card_value-delete m.words c (delete_kind m.words stage invariant.words c h)

-- the pairs of a tree are replaced, or one is added, as the walks to them are
pairs_brought : (old new : Words) (stage stages : Stages) (key was value : ℕ) → TreeIsSound old stage → TreeIsSound new stages → key ≤ greatest_key
    → (b : Bool) → BringsKey b old new key was value → MakesChange (op_brought b key was value) old new
pairs_brought old new stage stages key was value tree tree' real true h = pairs_replaced old new stage stages key was value tree tree' real h.had h.pairs
pairs_brought old new stage stages key was value tree tree' real false h = pairs_more old new stage stages key value tree tree' real h.absent h.pairs

-- a won child exchange makes the change of its card's operation
ichild_keys : (m : Machine) (stage : Stages) (i c : ℕ) (becomes : Scene) → Invariant m stage → IChild c (scene m i) Won becomes
    → Follows m stage (act.IChild c) i Won (with_scene m i becomes) → MakesChange (op_of_card m.words c) m.words becomes.words
ichild_keys m stage i c becomes invariant row after =
    let waits = ichild_won-waits m stage i c becomes invariant row in
    let inserts : is_insert (stage c) ≡ true = ap is_insert waits in
    let brings = ichild_won-brings m stage i c becomes invariant row in
    let key_is = insert_card_key m stage c invariant inserts in
    let value_is = insert_card_value m stage c invariant inserts in
    let replaces = is_replace_card m.words c in
    let had = m.words.value (m.words.l c) in
    let op_is : op_brought replaces (insert_key m.words c) had (insert_value m.words c) ≡ op_of_card m.words c =
    (λ t. op_brought replaces (sym key_is t) had (sym value_is t)) in
    subst (λ op. MakesChange op m.words becomes.words) op_is
    (pairs_brought m.words becomes.words stage after.stages (insert_key m.words c) (m.words.value (m.words.l c)) (insert_value m.words c)
    invariant.words.tree after.invariant.words.tree ((invariant.words.cards c).insert inserts).real replaces brings)

-- a won child exchange of a delete takes the card's key with its value away
dchild_keys : (m : Machine) (stage : Stages) (i c : ℕ) (becomes : Scene) → Invariant m stage → Happens m.last_card (act.DChild c) (scene m i) Won becomes
    → Follows m stage (act.DChild c) i Won (with_scene m i becomes) → TakesPair m.words becomes.words (card_key m.words c) (card_value m.words c)
dchild_keys m stage i c becomes invariant happens after =
    let deletes : is_delete (stage c) ≡ true = marked-delete (stage c) ((invariant.workers.each i).facts (Marked c) happens.row.may) in
    let loses = dchild-loses_pair c m stage i becomes invariant happens in
    let key_is = delete_card_key m stage c invariant deletes in
    let value_is = delete_card_value m stage c invariant deletes in
    subst (λ k. TakesPair m.words becomes.words k (card_value m.words c)) (sym key_is)
    (subst (TakesPair m.words becomes.words (delete_key m.words c)) (sym value_is)
    (pairs_less m.words becomes.words stage after.stages (delete_key m.words c) (delete_value m.words c) invariant.words.tree
    after.invariant.words.tree ((invariant.words.cards c).delete deletes).real loses.had loses.each))

-- what an answer of a child exchange can be
no_move : (won : Bool) → Moved ≡ won_or_lost won → ⊥
no_move true e = cc
no_move false e = cc

no_reply : (reply : Reply) (won : Bool) → Answered reply ≡ won_or_lost won → ⊥
no_reply reply true e = cc
no_reply reply false e = cc

-- each act changes the keys as it should
act_keys : (a : Act) (m : Machine) (stage : Stages) (i : ℕ) (said : Stepped) (becomes : Scene) → Invariant m stage
    → Happens m.last_card a (scene m i) said becomes → Follows m stage a i said (with_scene m i becomes) → PairsChange a said m.words becomes.words
act_keys (act.Begin op) m stage i said becomes invariant h after = same_keys m stage (act.Begin op) i said becomes tt invariant h.row after
act_keys act.Upd m stage i said becomes invariant h after = same_keys m stage act.Upd i said becomes tt invariant h.row after
act_keys act.Down m stage i said becomes invariant h after = same_keys m stage act.Down i said becomes tt invariant h.row after
act_keys act.Claim m stage i said becomes invariant h after = claim_keys m stage i said becomes invariant h.row after
act_keys act.IFlag m stage i said becomes invariant h after = same_keys m stage act.IFlag i said becomes tt invariant h.row after
act_keys act.DFlag m stage i said becomes invariant h after = same_keys m stage act.DFlag i said becomes tt invariant h.row after
act_keys (act.IChild c) m stage i Won becomes invariant h after = ichild_keys m stage i c becomes invariant h.row after
act_keys (act.IChild c) m stage i Lost becomes invariant h after =
    same_words-keys m.words becomes.words (ichild_lost-same m stage i c becomes invariant h.row)
act_keys (act.IChild c) m stage i Moved becomes invariant h after = absurd (no_move _ h.row.says)
act_keys (act.IChild c) m stage i (Answered reply) becomes invariant h after = absurd (no_reply reply _ h.row.says)
act_keys (act.IUnflag c) m stage i said becomes invariant h after = same_keys m stage (act.IUnflag c) i said becomes tt invariant h.row after
act_keys (act.Mark c) m stage i said becomes invariant h after = same_keys m stage (act.Mark c) i said becomes tt invariant h.row after
act_keys (act.DChild c) m stage i Won becomes invariant h after = dchild_keys m stage i c becomes invariant h after
act_keys (act.DChild c) m stage i Lost becomes invariant h after =
    same_words-keys m.words becomes.words (dchild-lost_same c m stage i becomes invariant h)
act_keys (act.DChild c) m stage i Moved becomes invariant h after = absurd (no_move _ h.row.says)
act_keys (act.DChild c) m stage i (Answered reply) becomes invariant h after = absurd (no_reply reply _ h.row.says)
act_keys (act.DUnflag c) m stage i said becomes invariant h after = same_keys m stage (act.DUnflag c) i said becomes tt invariant h.row after
act_keys (act.Backtrack c) m stage i said becomes invariant h after = same_keys m stage (act.Backtrack c) i said becomes tt invariant h.row after
act_keys act.Again m stage i said becomes invariant h after = same_keys m stage act.Again i said becomes tt invariant h.row after
act_keys act.Leave m stage i said becomes invariant h after = same_keys m stage act.Leave i said becomes tt invariant h.row after
act_keys act.Answer m stage i said becomes invariant h after = same_keys m stage act.Answer i said becomes tt invariant h.row after

-- each event changes the keys as its act should
pub steps_keys : (m : Machine) (stage : Stages) (e : Event) (said : Stepped) (m' : Machine) → Invariant m stage → Steps m e said m'
    → Follows m stage e.act e.worker said m' → PairsChange e.act said m.words m'.words
steps_keys m stage e said m' invariant h after =
    subst (λ (t : Machine). PairsChange e.act said m.words t.words) (sym h.gives)
    (act_keys e.act m stage e.worker said h.becomes invariant h.happens (subst (Follows m stage e.act e.worker said) h.gives after))
