-- What is known by names after a call that begins, ends or reads is what is known after the call by names.
use Rattle.std.proofs.Common.{◌≡◌, ℕ, ◌+◌, ◌==◌, if◌then◌else◌, max, map, Bool, true, false, Option, Some, None, List, [], ◌∷◌, refl, sym, ap, ◌∙◌}
use Rattle.std.specs.Option.{option_map}
use Rattle.ell_ops.specs.declared.op.Op.{Op}
use Rattle.ell_ops.specs.declared.reply.Reply.{Reply}
use Rattle.ell_ops.specs.Meaning.{greatest_key}
use Rattle.ell_word.specs.declared.update.Update.{Update}
use Rattle.ell_word.specs.Word.{unpacked}
use Rattle.ell_word.specs.declared.link.Link.{Link}
use Rattle.ell_word.specs.Link.{link_in}
use Rattle.ell_layout.specs.declared.field.Field.{Field}
use Rattle.ell_layout.specs.declared.field.Field.TheVariants as field
use Rattle.ell_core.specs.acts.Searching.{at_root, gone_down, with_read}
use Rattle.ell_runs.specs.declared.call.Call.TheVariants as call
use Rattle.ell_runs.specs.declared.glance.Glance.{Glance}
use Rattle.ell_runs.specs.declared.glance.Stretch.{Stretch}
use Rattle.ell_runs.specs.declared.view.Told.{Told}
use Rattle.ell_runs.specs.declared.view.Told.TheVariants.{Met, Key, Info, Expects, Frozen}
use Rattle.ell_runs.specs.declared.view.View.{View}
use Rattle.ell_runs.specs.Depths.{depth_below, depth_under, tells_grandparent_of, met_at}
use Rattle.ell_runs.specs.Calls.{after}
use Rattle.ell_runs.specs.Changes.{after_answer, after_begin, after_rest, after_upd, answered_so, at_rest, counted, depth_there, after_try, is_this, told_info, with_found}
use Rattle.ell_runs.specs.Named.{IsNaming, FitsLink, WordFitsLink, named_node, named_update, named_child, named_answered, named_glance, named_word, named_told, named}
use Rattle.ell_runs.proofs.lemmas.named.NamedWords.{nodes_alike, cards_alike, root_named, unpacked_named, packed_named, read_named, link_named}
use Rattle.ell_runs.proofs.lemmas.named.NamedTold.{facts_named, places_named, depth_named}
use Rattle.ell_runs.proofs.lemmas.named.NamedHindrances.{deletes_named, after_try_named}

module _ (name : ℕ → ℕ) (naming : IsNaming name) where
  -- the root is the root by name
  root : named_node name 0 ≡ 0
  root = root_named name naming

  -- begin
  pub begin_named : (op : Option Op) (v : View) → named name (after_begin op v) ≡ after_begin op (named name v)
  begin_named op v = λ t. record (after_begin op (named name v)) {
    worker = record ((after_begin op (named name v)).worker) { search = record at_root { node = Some (root t) } };
    told = Met (root t) ∷ [];
  }

  -- again
  pub again_named : (n : ℕ) (v : View) → named name (after call.Again n v) ≡ after call.Again n (named name v)
  again_named n v = begin_named v.worker.operation (after_try v) ∙ ap (after_begin v.worker.operation) (after_try_named name naming v)

  -- leave
  pub leave_named : (n : ℕ) (v : View) → named name (after call.Leave n v) ≡ after call.Leave n (named name v)
  leave_named n v =
      (λ t. record (left (named name (after_try v))) { told = Met (root t) ∷ [] }) ∙ ap left (after_try_named name naming v)
    where
      left : View → View
      left w = counted (record (at_rest v.worker.ledger w) { given_up = v.worker.operation })

  -- rest
  pub rest_named : (v : View) → named name (after_rest v) ≡ after_rest (named name v)
  rest_named v = λ t. record (after_rest (named name v)) { told = Met (root t) ∷ [] }

  -- answer
  answered_named : (op : Option Op) (card : Option ℕ) (said : Reply) (took : Option ℕ)
      → option_map (named_answered name) (answered_so op card said took) ≡ answered_so op (option_map name card) said took
  answered_named None card said took = refl
  answered_named (Some op) card said took = refl

  pub answer_named : (said : Reply) (took : Option ℕ) (v : View) → named name (after_answer said took v) ≡ after_answer said took (named name v)
  answer_named said took v = λ t. record (after_answer said took (named name v)) {
    told = Met (root t) ∷ [];
    answered = answered_named v.worker.operation v.worker.card said took t;
  }

  -- an update was found at a node
  pub found_named : (x : ℕ) (u : Update) (v : View) → named name (with_found x u v) ≡ with_found (named_node name x) (named_update name u) (named name v)
  found_named x u v = λ t. record (named name v) {
    worker = record ((named name v).worker) { knows = facts_named name u.state u.card v.worker.knows t };
    told = places_named name x u.state u.card v.told t;
  }

  -- upd
  pub upd_named : (x n : ℕ) (v : View) → named name (after (call.Upd x) n v) ≡ after (call.Upd (named_node name x)) (named_node name n) (named name v)
  upd_named x n v =
      (λ t. counted (record (found_named x (unpacked n) v t) {
        worker = record ((found_named x (unpacked n) v t).worker) {
          search = with_read (named name v).worker.search (packed_named name naming (unpacked n) t);
        };
      }))
      ∙ ap (λ u. after_upd (named_node name x) u (named name v)) (sym (unpacked_named name naming n))

  -- down
  pub down_named : (x : ℕ) (right : Bool) (n : ℕ) (v : View) → FitsLink name (link_in n).node
      → named name (after (call.Down x right) n v) ≡ after (call.Down (named_node name x) right) (named_child name n) (named name v)
  down_named x right n v fits =
      λ t. down_to (sym (link_named name naming n fits) t) (read_named name naming v.worker.search.read t) (sym (depth_named name naming v.told x) t)
    where
      down_to : Link → ℕ → ℕ → View
      down_to l word depth = counted (record (named name v) {
        worker = record ((named name v).worker) {
          search = gone_down (named name v).worker.search (record { node = named_node name x; word = word; tag = l.tag }) l.node;
        };
        told = met_at (depth + 1) l.node (named name v).told;
        here = None;
      })

  -- key_of
  here_named : (o : Option ℕ) (x : ℕ) → is_this (option_map (named_node name) o) (named_node name x) ≡ is_this o x
  here_named None x = refl
  here_named (Some y) x = nodes_alike name naming y x

  pub key_of_named : (x n : ℕ) (v : View) → named name (after (call.KeyOf x) n v) ≡ after (call.KeyOf (named_node name x)) n (named name v)
  key_of_named x n v = λ t. counted (record (named name v) {
    told = Key (named_node name x) n ∷ (named name v).told;
    here = if sym (here_named v.worker.search.node x) t then Some n else v.here;
  })

  -- how deep the parent of a delete is, as far as its pass knows
  tells_above : (c : ℕ) (e : Told) → tells_grandparent_of (name c) (named_told name e) ≡ option_map (named_node name) (tells_grandparent_of c e)
  tells_above c (Info d field.Gp x) = ap (λ b. if b then Some (named_node name x) else None) (cards_alike name naming d c) ∙ by (d == c)
    where
      by : (b : Bool) → (if b then Some (named_node name x) else None) ≡ option_map (named_node name) (if b then Some x else None)
      by true = refl
      by false = refl
  tells_above c _ = refl

  below_named : (told : List Told) (o : Option ℕ) → depth_below (map (named_told name) told) (option_map (named_node name) o) ≡ depth_below told o
  below_named told None = refl
  below_named told (Some above) = ap (λ d. d + 1) (depth_named name naming told above)

  under_named : (c : ℕ) (told es : List Told)
      → depth_under (tells_grandparent_of (name c)) (map (named_told name) told) (map (named_told name) es) ≡ depth_under (tells_grandparent_of c) told es
  under_named c told [] = refl
  under_named c told (e ∷ es) =
      λ t. max ((ap (depth_below (map (named_told name) told)) (tells_above c e) ∙ below_named told (tells_grandparent_of c e)) t) (under_named c told es t)

  there_named : (v : View) (c : ℕ) (f : Field) → depth_there (named name v) (name c) f ≡ depth_there v c f
  there_named v c field.P = λ t. if deletes_named name naming v.worker.knows c t then under_named c v.told v.told t else 0
  there_named v c _ = refl

  -- what was told with a word of a card
  told_info_named : (depth c : ℕ) (f : Field) (n : ℕ) (told : List Told) → WordFitsLink name f n
      → map (named_told name) (told_info depth c f n told) ≡ told_info depth (name c) f (named_word name f n) (map (named_told name) told)
  told_info_named depth c field.L n told fits =
      λ t. Info (name c) field.L (sym (link_named name naming n fits) t).node ∷ Expects (name c) (sym (link_named name naming n fits) t).tag ∷ map (named_told name) told
  told_info_named depth c field.Left n told fits = λ t. Info (name c) field.Left (sym (link_named name naming n fits) t).node ∷ map (named_told name) told
  told_info_named depth c field.Right n told fits = λ t. Info (name c) field.Right (sym (link_named name naming n fits) t).node ∷ map (named_told name) told
  told_info_named depth c _ n told fits = refl

  -- info
  pub info_named : (c : ℕ) (f : Field) (n : ℕ) (v : View) → WordFitsLink name f n
      → named name (after (call.Info c f) n v) ≡ after (call.Info (name c) f) (named_word name f n) (named name v)
  info_named c f n v fits =
      ap (λ told. record (named name v) { told = told; made = v.made + 1 })
      (told_info_named (depth_there v c f) c f n v.told fits
      ∙ ap (λ depth. told_info depth (name c) f (named_word name f n) (map (named_told name) v.told)) (sym (there_named v c f)))

  -- frozen_child
  pub frozen_child_named : (c p : ℕ) (right : Bool) (n : ℕ) (v : View) → FitsLink name (link_in n).node
      → named name (after (call.FrozenChild c p right) n v) ≡ after (call.FrozenChild (name c) (named_node name p) right) (named_child name n) (named name v)
  frozen_child_named c p right n v fits = λ t. told_of (sym (link_named name naming n fits) t).node (sym (depth_named name naming v.told p) t)
    where
      told_of : ℕ → ℕ → View
      told_of node depth = record (named name v) { told = Frozen (name c) right node ∷ met_at (depth + 1) node (named name v).told; made = v.made + 1 }

  -- look
  pub look_named : (n : ℕ) (v : View) → FitsLink name (link_in n).node → named name (after call.Look n v) ≡ after call.Look (named_child name n) (named name v)
  look_named n v fits = λ t. at (sym (link_named name naming n fits) t).node (root t)
    where
      at : ℕ → ℕ → View
      at node root = counted (record (named name v) {
        told = met_at 1 node (Met root ∷ []);
        glances = record { node = node; low = 0; high = greatest_key + 1; whole = true } ∷ [];
        looks = v.looks + 1;
      })

  -- look_down
  pub look_down_named : (from : Glance) (to : Stretch) (right : Bool) (n : ℕ) (v : View) → FitsLink name (link_in n).node
      → named name (after (call.LookDown from to right) n v) ≡ after (call.LookDown (named_glance name from) to right) (named_child name n) (named name v)
  look_down_named from to right n v fits = λ t. at (sym (link_named name naming n fits) t).node (sym (depth_named name naming v.told from.node) t)
    where
      at : ℕ → ℕ → View
      at node depth = counted (record (named name v) {
        told = met_at (depth + 1) node (named name v).told;
        glances = record { node = node; low = to.low; high = to.high; whole = to.whole } ∷ (named name v).glances;
      })
