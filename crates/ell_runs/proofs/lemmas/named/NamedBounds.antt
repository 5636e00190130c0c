-- Passes that begin, part and come together know of no card but those below a number; and so it is of a greater number, and of a pass that claims one.
use Rattle.std.proofs.Common.{ℕ, ◌<◌, ◌≤◌, ◌&&◌, if◌then◌else◌, nat_le, nat_lt, Bool, true, false, Option, Some, None, IfSome, List, [], ◌∷◌, unwrap_or, sym, subst, arith}
use Rattle.std.specs.List.{AllByRecursion}
use Rattle.std.proofs.lemmas.Option.{IfSome_then}
use Rattle.ell_ops.specs.declared.op.Op.{Op}
use Rattle.ell_ops.specs.declared.op.Op.TheVariants.{Find, Insert, Delete, Swap}
use Rattle.ell_word.specs.Link.{linked, link_in}
use Rattle.ell_word.specs.Node.{card, left_leaf, right_leaf}
use Rattle.ell_word.proofs.Numbers.{node_back}
use Rattle.ell_layout.specs.declared.field.Field.{Field}
use Rattle.ell_layout.specs.declared.field.Field.TheVariants as field
use Rattle.ell_layout.specs.Cards.{put_filling, stays_below, tagged_for}
use Rattle.ell_core.specs.declared.exchange.Exchange.{Exchange}
use Rattle.ell_core.specs.declared.fact.Fact.{Fact}
use Rattle.ell_core.specs.declared.view.Seen.{Seen}
use Rattle.ell_core.specs.state.Facts.{card_of_fact}
use Rattle.ell_core.specs.statements.Told.{is_fixed}
use Rattle.ell_runs.specs.declared.call.NewNode.{NewNode}
use Rattle.ell_runs.specs.declared.glance.Glance.{Glance}
use Rattle.ell_runs.specs.declared.view.Hindrance.{Hindrance}
use Rattle.ell_runs.specs.declared.view.Hindrance.TheVariants.{Claim, Found}
use Rattle.ell_runs.specs.declared.view.Told.{Told}
use Rattle.ell_runs.specs.declared.view.Told.TheVariants.{Met, Depth, Key, Value, Info, Expects, Frozen}
use Rattle.ell_runs.specs.declared.view.View.{View}
use Rattle.ell_runs.specs.Changes.{after_claim, expected_tag, filling_for, filling_of, first_of, joined_view, left_view, right_view, spent_view, tagged, told_filling, value_told}
use Rattle.ell_runs.specs.NamedBelow.{NodeBelow, SeenBelow, InfoBelow, ToldBelow, WordBelow, HindranceBelow, NumbersBelow}
use Rattle.ell_runs.specs.Names.{top_name}
use Rattle.ell_runs.specs.Plans.{TablePlan}
use Rattle.ell_runs.proofs.lemmas.named.NamedBelow.{all_in_both, root_below}

-- what follows for each entry of a list
all_follow : {A : Type 0} (P Q : A → Type 0) → ((x : A) → P x → Q x) → (xs : List A) → AllByRecursion P xs → AllByRecursion Q xs
all_follow P Q follows [] ps = tt
all_follow P Q follows (x ∷ xs) ps = (follows x ps.0, all_follow P Q follows xs ps.1)

module _ (n m : ℕ) (more : n ≤ m) where
  -- cards, nodes, and what has them, below the lesser of two numbers are below the greater one
  card_more : (c : ℕ) → c < n → c < m
  card_more c low = omega (arith, low, more)

  node_more : (x : ℕ) → NodeBelow n x → NodeBelow m x
  node_more x low = card_more (card x) low

  seen_more : (seen : Seen) → SeenBelow n seen → SeenBelow m seen
  seen_more seen low = (node_more seen.node low.0, node_more seen.word low.1)

  info_more : (f : Field) (x : ℕ) → InfoBelow n f x → InfoBelow m f x
  info_more field.Gp x low = node_more x low
  info_more field.P x low = node_more x low
  info_more field.L x low = node_more x low
  info_more field.Was x low = node_more x low
  info_more field.Left x low = node_more x low
  info_more field.Right x low = node_more x low
  info_more field.Update x low = node_more x low
  info_more field.Key x low = tt
  info_more field.LeftLeafKey x low = tt
  info_more field.RightLeafKey x low = tt
  info_more field.LeftValue x low = tt
  info_more field.RightValue x low = tt

  word_more : (f : Field) (x : ℕ) → WordBelow n f x → WordBelow m f x
  word_more field.Gp x low = node_more x low
  word_more field.P x low = node_more x low
  word_more field.L x low = node_more (link_in x).node low
  word_more field.Was x low = node_more x low
  word_more field.Left x low = node_more (link_in x).node low
  word_more field.Right x low = node_more (link_in x).node low
  word_more field.Update x low = node_more x low
  word_more field.Key x low = tt
  word_more field.LeftLeafKey x low = tt
  word_more field.RightLeafKey x low = tt
  word_more field.LeftValue x low = tt
  word_more field.RightValue x low = tt

  told_more : (e : Told) → ToldBelow n e → ToldBelow m e
  told_more (Met x) low = node_more x low
  told_more (Depth x depth) low = node_more x low
  told_more (Key x key) low = node_more x low
  told_more (Value x value) low = node_more x low
  told_more (Info c f x) low = (card_more c low.0, info_more f x low.1)
  told_more (Expects c tag) low = card_more c low
  told_more (Frozen c right x) low = (card_more c low.0, node_more x low.1)

  hindrance_more : (h : Hindrance) → HindranceBelow n h → HindranceBelow m h
  hindrance_more (Claim c) low = card_more c low
  hindrance_more (Found u) low = card_more u.card low

  words_more : (es : List (Field × ℕ)) → AllByRecursion (λ (e : Field × ℕ). WordBelow n e.0 e.1) es → AllByRecursion (λ (e : Field × ℕ). WordBelow m e.0 e.1) es
  words_more es low = all_follow (λ (e : Field × ℕ). WordBelow n e.0 e.1) (λ (e : Field × ℕ). WordBelow m e.0 e.1) (λ e p. word_more e.0 e.1 p) es low

  facts_more : (facts : List Fact) → AllByRecursion (λ f. card_of_fact f < n) facts → AllByRecursion (λ f. card_of_fact f < m) facts
  facts_more facts low = all_follow (λ f. card_of_fact f < n) (λ f. card_of_fact f < m) (λ f p. card_more (card_of_fact f) p) facts low

  -- a pass that knows of no card but those below a number
  pub numbers_more : (v : View) → NumbersBelow n v → NumbersBelow m v
  numbers_more v low = record {
    worker = record {
      search = record {
        node = IfSome_then v.worker.search.node low.worker.search.node node_more;
        read = IfSome_then v.worker.search.read low.worker.search.read node_more;
        parent = IfSome_then v.worker.search.parent low.worker.search.parent seen_more;
        grandparent = IfSome_then v.worker.search.grandparent low.worker.search.grandparent seen_more;
      };
      hand = IfSome_then v.worker.card low.worker.hand card_more;
      knows = facts_more v.worker.knows low.worker.knows;
    };
    told = all_follow (ToldBelow n) (ToldBelow m) told_more v.told low.told;
    planned = words_more v.planned low.planned;
    stores = words_more v.stores low.stores;
    won = all_follow (λ (e : Exchange × ℕ). e.1 < n) (λ (e : Exchange × ℕ). e.1 < m) (λ e p. card_more e.1 p) v.won low.won;
    answered = IfSome_then v.answered low.answered (λ a p. IfSome_then a.card p card_more);
    knew = facts_more v.knew_before low.knew;
    hindrances = all_follow (HindranceBelow n) (HindranceBelow m) hindrance_more v.hindrances low.hindrances;
    met = all_follow (HindranceBelow n) (HindranceBelow m) hindrance_more v.met low.met;
    glances = all_follow (λ (g : Glance). NodeBelow n g.node) (λ (g : Glance). NodeBelow m g.node) (λ g p. node_more g.node p) v.glances low.glances;
  }

module _ (n : ℕ) (some : 0 < n) where
  -- passes that begin, part and come together
  pub first_below : (plan : TablePlan) → NumbersBelow n (first_of plan)
  first_below plan = record {
    worker = record { search = record { node = tt; read = tt; parent = tt; grandparent = tt }; hand = tt; knows = tt };
    told = root_below n some;
    planned = tt;
    stores = tt;
    won = tt;
    answered = tt;
    knew = tt;
    hindrances = tt;
    met = tt;
    glances = tt;
  }

  pub spent_below : NumbersBelow n spent_view
  spent_below = record {
    worker = record { search = record { node = tt; read = tt; parent = tt; grandparent = tt }; hand = tt; knows = tt };
    told = root_below n some;
    planned = tt;
    stores = tt;
    won = tt;
    answered = tt;
    knew = tt;
    hindrances = tt;
    met = tt;
    glances = tt;
  }

  -- the parts of a pass
  pub left_below : (keys : List ℕ) (v : View) → NumbersBelow n v → NumbersBelow n (left_view keys v)
  left_below keys v low = record {
    worker = record { search = record { node = tt; read = tt; parent = tt; grandparent = tt }; hand = tt; knows = low.worker.knows };
    told = root_below n some;
    planned = tt;
    stores = tt;
    won = low.won;
    answered = tt;
    knew = low.knew;
    hindrances = low.hindrances;
    met = tt;
    glances = tt;
  }

  pub right_below : (keys : List ℕ) (v : View) → NumbersBelow n v → NumbersBelow n (right_view keys v)
  right_below keys v low = record {
    worker = record { search = record { node = tt; read = tt; parent = tt; grandparent = tt }; hand = tt; knows = low.worker.knows };
    told = root_below n some;
    planned = tt;
    stores = tt;
    won = tt;
    answered = tt;
    knew = low.knew;
    hindrances = tt;
    met = tt;
    glances = tt;
  }

  -- two passes that are one
  pub joined_below : (v w : View) → NumbersBelow n v → NumbersBelow n w → NumbersBelow n (joined_view v w)
  joined_below v w low low' = record {
    worker = record {
      search = record { node = tt; read = tt; parent = tt; grandparent = tt };
      hand = tt;
      knows = all_in_both (λ f. card_of_fact f < n) v.worker.knows w.worker.knows low.worker.knows low'.worker.knows;
    };
    told = root_below n some;
    planned = tt;
    stores = tt;
    won = all_in_both (λ (e : Exchange × ℕ). e.1 < n) v.won w.won low.won low'.won;
    answered = tt;
    knew = tt;
    hindrances = all_in_both (HindranceBelow n) v.hindrances w.hindrances low.hindrances low'.hindrances;
    met = tt;
    glances = tt;
  }

  -- what fills a card below the number
  module _ (few : n ≤ top_name) (c : ℕ) (node : NewNode) (low : c < n) where
    -- what fills a card leads to nodes below the number
    abbrev FillingBelow : List (Field × ℕ) → Type 0
    FillingBelow es = AllByRecursion (λ (e : Field × ℕ). InfoBelow n e.0 e.1) es

    -- the children of its node
    choice_below : (b : Bool) (x y : ℕ) → NodeBelow n x → NodeBelow n y → NodeBelow n (if b then x else y)
    choice_below true x y p q = p
    choice_below false x y p q = q

    -- what fills it
    put_below : (k value below key there : ℕ) (parent : Seen) → NodeBelow n parent.node → NodeBelow n below
        → FillingBelow (put_filling node.flat c k value node.key parent.node below key there)
    put_below k value below key there parent p at = (
      p,
      (
        at,
        (
          tt,
          (
            choice_below (stays_below node.flat below && nat_le key k) below (left_leaf c) at (omega (arith, low)),
            (
              choice_below (stays_below node.flat below && nat_lt k key) below (right_leaf c) at (omega (arith, low)),
              (omega (arith, some), (tt, (tt, (tt, (tt, tt))))),
            ),
          ),
        ),
      ),
    )

    -- what fills it, by the operation
    filling_below : (op : Option Op) (at : Option ℕ) (parent above : Option Seen) (key : ℕ) (value_of : ℕ → ℕ) → IfSome at (NodeBelow n)
        → IfSome parent (SeenBelow n) → IfSome above (SeenBelow n) → FillingBelow (filling_for c node op at parent above key value_of)
    filling_below (Some (Insert k value)) (Some below) (Some parent) above key value_of p q r = put_below k value below key (value_of below) parent q.0 p
    filling_below (Some (Swap k was value)) (Some below) (Some parent) above key value_of p q r = put_below k value below key (value_of below) parent q.0 p
    filling_below (Some (Delete k)) (Some leaf) (Some parent) (Some above) key value_of p q r = (r.0, (q.0, (p, (q.1, tt))))
    filling_below (Some (Delete k)) (Some leaf) (Some parent) None key value_of p q r = tt
    filling_below (Some (Delete k)) (Some leaf) None above key value_of p q r = tt
    filling_below (Some (Delete k)) None parent above key value_of p q r = tt
    filling_below (Some (Insert k value)) (Some below) None above key value_of p q r = tt
    filling_below (Some (Insert k value)) None parent above key value_of p q r = tt
    filling_below (Some (Swap k was value)) (Some below) None above key value_of p q r = tt
    filling_below (Some (Swap k was value)) None parent above key value_of p q r = tt
    filling_below (Some (Find k)) at parent above key value_of p q r = tt
    filling_below None at parent above key value_of p q r = tt

    -- its words
    link_below : (x tag : ℕ) → NodeBelow n x → NodeBelow n (link_in (linked (record { node = x; tag = tag }))).node
    link_below x tag at = subst (NodeBelow n) (sym (node_back x tag (omega (arith, at, few)))) at

    word_below : (f : Field) (tag x : ℕ) → InfoBelow n f x → WordBelow n f (tagged_for f tag x)
    word_below field.L tag x at = link_below x tag at
    word_below field.Left tag x at = link_below x 0 at
    word_below field.Right tag x at = link_below x 0 at
    word_below field.Gp tag x at = at
    word_below field.P tag x at = at
    word_below field.Was tag x at = at
    word_below field.Update tag x at = at
    word_below field.Key tag x at = tt
    word_below field.LeftLeafKey tag x at = tt
    word_below field.RightLeafKey tag x at = tt
    word_below field.LeftValue tag x at = tt
    word_below field.RightValue tag x at = tt

    words_below : (tag : ℕ) (es : List (Field × ℕ)) → FillingBelow es → AllByRecursion (λ (e : Field × ℕ). WordBelow n e.0 e.1) (tagged tag es)
    words_below tag [] all = tt
    words_below tag (e ∷ es) all = (word_below e.0 tag e.1 all.0, words_below tag es all.1)

    -- what is told of it
    told_below : (es : List (Field × ℕ)) (told : List Told) → FillingBelow es → AllByRecursion (ToldBelow n) told
        → AllByRecursion (ToldBelow n) (told_filling c es told)
    told_below [] told all olds = olds
    told_below (e ∷ es) told all olds = by (is_fixed e.0) (told_below es told all.1 olds)
      where
        by : (b : Bool) → AllByRecursion (ToldBelow n) (told_filling c es told)
            → AllByRecursion (ToldBelow n) (if b then Info c e.0 e.1 ∷ told_filling c es told else told_filling c es told)
        by true rest = ((low, all.0), rest)
        by false rest = rest

    -- a pass that claims it
    pub claim_below : (v : View) → NumbersBelow n v → NumbersBelow n (after_claim true c node v)
    claim_below v all =
        let filling = filling_below v.worker.operation v.worker.search.node v.worker.search.parent v.worker.search.grandparent (unwrap_or v.here 0)
        (value_told v.told) all.worker.search.node all.worker.search.parent all.worker.search.grandparent in record {
          worker = record { search = all.worker.search; hand = low; knows = all.worker.knows };
          told = (low, told_below (filling_of c node v) v.told filling all.told);
          planned = words_below (expected_tag v) (filling_of c node v) filling;
          stores = tt;
          won = (low, all.won);
          answered = all.answered;
          knew = all.knew;
          hindrances = all.hindrances;
          met = all.met;
          glances = all.glances;
        }
