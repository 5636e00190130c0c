-- What a pass knows by names stays as it is where other cards get names.
use Rattle.std.proofs.Common.{◌≡◌, ℕ, ◌+◌, ◌*◌, ◌%◌, ◌<◌, map, Option, Some, None, IfSome, List, [], ◌∷◌, refl, ap}
use Rattle.std.specs.Option.{option_map}
use Rattle.std.specs.List.{AllByRecursion}
use Rattle.ell_word.specs.Link.{linked, link_in}
use Rattle.ell_word.specs.Node.{card}
use Rattle.ell_layout.specs.declared.field.Field.{Field}
use Rattle.ell_layout.specs.declared.field.Field.TheVariants as field
use Rattle.ell_layout.specs.Words.{put}
use Rattle.ell_core.specs.declared.exchange.Exchange.{Exchange}
use Rattle.ell_core.specs.declared.fact.Fact.{Fact}
use Rattle.ell_core.specs.declared.fact.Fact.TheVariants as fact
use Rattle.ell_core.specs.declared.view.Seen.{Seen}
use Rattle.ell_core.specs.state.Facts.{card_of_fact}
use Rattle.ell_runs.specs.declared.glance.Glance.{Glance}
use Rattle.ell_runs.specs.declared.view.Answered.{Answered}
use Rattle.ell_runs.specs.declared.view.Hindrance.{Hindrance}
use Rattle.ell_runs.specs.declared.view.Hindrance.TheVariants.{Claim, Found}
use Rattle.ell_runs.specs.declared.view.Told.{Told}
use Rattle.ell_runs.specs.declared.view.Told.TheVariants.{Met, Depth, Key, Value, Info, Expects, Frozen}
use Rattle.ell_runs.specs.declared.view.View.{View}
use Rattle.ell_runs.specs.Named.{named_node, named_child, named_seen, named_fact, named_info, named_told, named_word, named_words, named_hindrance, named_win, named_answered, named_glance, named}
use Rattle.ell_runs.specs.Names.{name_of}
use Rattle.ell_runs.specs.NamedBelow.{NodeBelow, SeenBelow, InfoBelow, ToldBelow, WordBelow, HindranceBelow, NumbersBelow}
use Rattle.ell_runs.proofs.lemmas.named.Names.{names_stay}

-- what two functions make of a list is the same where they agree on each entry
all_same : {A B : Type 0} (P : A → Type 0) (f g : A → B) → ((x : A) → P x → f x ≡ g x) → (xs : List A) → AllByRecursion P xs → map f xs ≡ map g xs
all_same P f g each [] ps = refl
all_same P f g each (x ∷ xs) ps = λ t. each x ps.0 t ∷ all_same P f g each xs ps.1 t

-- and of what an option has
if_same : {A B : Type 0} (P : A → Type 0) (f g : A → B) → ((x : A) → P x → f x ≡ g x) → (o : Option A) → IfSome o P → option_map f o ≡ option_map g o
if_same P f g each None p = refl
if_same P f g each (Some x) p = ap Some (each x p)

module _ (n : ℕ) (name name' : ℕ → ℕ) (same : (c : ℕ) → c < n → name c ≡ name' c) where
  -- nodes, and update words
  node_same : (x : ℕ) → NodeBelow n x → named_node name x ≡ named_node name' x
  node_same x low = λ t. 4 * same (card x) low t + x % 4

  -- child words
  child_same : (x : ℕ) → NodeBelow n (link_in x).node → named_child name x ≡ named_child name' x
  child_same x low = λ t. linked (record { node = node_same (link_in x).node low t; tag = (link_in x).tag })

  -- nodes that a search has seen
  seen_same : (seen : Seen) → SeenBelow n seen → named_seen name seen ≡ named_seen name' seen
  seen_same seen low = λ t. record seen { node = node_same seen.node low.0 t; word = node_same seen.word low.1 t }

  -- facts
  fact_same : (f : Fact) → card_of_fact f < n → named_fact name f ≡ named_fact name' f
  fact_same (fact.IFlagged c) low = ap fact.IFlagged (same c low)
  fact_same (fact.IChanged c) low = ap fact.IChanged (same c low)
  fact_same (fact.IOver c) low = ap fact.IOver (same c low)
  fact_same (fact.DFlagged c) low = ap fact.DFlagged (same c low)
  fact_same (fact.Marked c) low = ap fact.Marked (same c low)
  fact_same (fact.Unmarkable c) low = ap fact.Unmarkable (same c low)
  fact_same (fact.Cut c) low = ap fact.Cut (same c low)
  fact_same (fact.DOver c) low = ap fact.DOver (same c low)
  fact_same (fact.Backed c) low = ap fact.Backed (same c low)

  -- what was told of fields of cards
  info_same : (f : Field) (x : ℕ) → InfoBelow n f x → named_info name f x ≡ named_info name' f x
  info_same field.Gp x low = node_same x low
  info_same field.P x low = node_same x low
  info_same field.L x low = node_same x low
  info_same field.Was x low = node_same x low
  info_same field.Left x low = node_same x low
  info_same field.Right x low = node_same x low
  info_same field.Update x low = node_same x low
  info_same field.Key x low = refl
  info_same field.LeftLeafKey x low = refl
  info_same field.RightLeafKey x low = refl
  info_same field.LeftValue x low = refl
  info_same field.RightValue x low = refl

  -- what was told
  told_same : (e : Told) → ToldBelow n e → named_told name e ≡ named_told name' e
  told_same (Met x) low = ap Met (node_same x low)
  told_same (Depth x d) low = ap (λ y. Depth y d) (node_same x low)
  told_same (Key x k) low = ap (λ y. Key y k) (node_same x low)
  told_same (Value x v) low = ap (λ y. Value y v) (node_same x low)
  told_same (Info c f x) low = λ t. Info (same c low.0 t) f (info_same f x low.1 t)
  told_same (Expects c tag) low = ap (λ y. Expects y tag) (same c low)
  told_same (Frozen c right x) low = λ t. Frozen (same c low.0 t) right (node_same x low.1 t)

  -- words for fields of cards
  word_same : (f : Field) (x : ℕ) → WordBelow n f x → named_word name f x ≡ named_word name' f x
  word_same field.Gp x low = node_same x low
  word_same field.P x low = node_same x low
  word_same field.L x low = child_same x low
  word_same field.Was x low = node_same x low
  word_same field.Left x low = child_same x low
  word_same field.Right x low = child_same x low
  word_same field.Update x low = node_same x low
  word_same field.Key x low = refl
  word_same field.LeftLeafKey x low = refl
  word_same field.RightLeafKey x low = refl
  word_same field.LeftValue x low = refl
  word_same field.RightValue x low = refl

  words_same : (es : List (Field × ℕ)) → AllByRecursion (λ (e : Field × ℕ). WordBelow n e.0 e.1) es → named_words name es ≡ named_words name' es
  words_same es low = all_same (λ (e : Field × ℕ). WordBelow n e.0 e.1) (λ e. (e.0, named_word name e.0 e.1)) (λ e. (e.0, named_word name' e.0 e.1))
      (λ e p t. (e.0, word_same e.0 e.1 p t)) es low

  -- what was in the way
  hindrance_same : (h : Hindrance) → HindranceBelow n h → named_hindrance name h ≡ named_hindrance name' h
  hindrance_same (Claim c) low = ap Claim (same c low)
  hindrance_same (Found u) low = λ t. Found (record u { card = same u.card low t })

  -- what a pass knows of cards that have the same names
  pub named_same : (v : View) → NumbersBelow n v → named name v ≡ named name' v
  named_same v low = λ t. record v {
    worker = record (v.worker) {
      search = record {
        node = if_same (NodeBelow n) (named_node name) (named_node name') node_same v.worker.search.node low.worker.search.node t;
        read = if_same (NodeBelow n) (named_node name) (named_node name') node_same v.worker.search.read low.worker.search.read t;
        parent = if_same (SeenBelow n) (named_seen name) (named_seen name') seen_same v.worker.search.parent low.worker.search.parent t;
        grandparent = if_same (SeenBelow n) (named_seen name) (named_seen name') seen_same v.worker.search.grandparent low.worker.search.grandparent t;
      };
      card = if_same (λ c. c < n) name name' same v.worker.card low.worker.hand t;
      knows = all_same (λ f. card_of_fact f < n) (named_fact name) (named_fact name') fact_same v.worker.knows low.worker.knows t;
    };
    told = all_same (ToldBelow n) (named_told name) (named_told name') told_same v.told low.told t;
    next = None;
    planned = words_same v.planned low.planned t;
    stores = words_same v.stores low.stores t;
    found = None;
    won = all_same (λ (e : Exchange × ℕ). e.1 < n) (named_win name) (named_win name') (λ e p i. (e.0, same e.1 p i)) v.won low.won t;
    answered = if_same (λ (a : Answered). IfSome a.card (λ c. c < n)) (named_answered name) (named_answered name')
        (λ a p i. record a { card = if_same (λ c. c < n) name name' same a.card p i }) v.answered low.answered t;
    knew_before = all_same (λ f. card_of_fact f < n) (named_fact name) (named_fact name') fact_same v.knew_before low.knew t;
    hindrances = all_same (HindranceBelow n) (named_hindrance name) (named_hindrance name') hindrance_same v.hindrances low.hindrances t;
    met = all_same (HindranceBelow n) (named_hindrance name) (named_hindrance name') hindrance_same v.met low.met t;
    glances = all_same (λ (g : Glance). NodeBelow n g.node) (named_glance name) (named_glance name') (λ g p i. record g { node = node_same g.node p i }) v.glances low.glances t;
  }

-- so what a pass knows by names stays as it is where the next card gets a name, if it knows of no card but those that have names
pub named_stays : (count : ℕ) (given : ℕ → ℕ) (new : ℕ) (v : View) → NumbersBelow count v
    → named (name_of (count + 1) (put given count new)) v ≡ named (name_of count given) v
named_stays count given new v low =
    named_same count (name_of (count + 1) (put given count new)) (name_of count given) (names_stay count given new) v low
