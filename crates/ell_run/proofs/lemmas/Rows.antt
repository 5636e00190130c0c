use Rattle.std.proofs.Common.{◌≡◌, ◌≢◌, ℕ, suc, All, List, [], ◌∷◌, ◌++◌, Some, length, take, refl, ap, ap₂, sym, subst, ◌∙◌}
use Rattle.std.specs.Prelude.{slice_get}
use Rattle.std.proofs.lemmas.List.{append_assoc}
use Rattle.std.proofs.lemmas.List.Elements.{All-head, All-tail, All-take, All-map}
use Rattle.std.proofs.lemmas.Option.{slice_get_within, get_or_from_slice_get}
use Rattle.ell_ops.specs.declared.op.Op.{Op}
use Rattle.ell_ops.specs.Contents.{Contents}
use Rattle.ell_ops.specs.Meaning.{key_of, final}
use Rattle.ell_parts.specs.PartedOps.{PartedOps, part}
use Rattle.ell_run.specs.ByParts.{ops_in}
use Rattle.ell_run.specs.Pieces.{ArePieces, IsPiece, front, numbered, ops_done}
use Rattle.ell_order.proofs.lemmas.OnKey.{on_key, on_key-append, none_on_key, final_agree, replies_alike, reply_alike}
use Rattle.ell_ops.specs.declared.reply.Reply.{Reply}

-- what holds of all elements holds of one
pub all_at : {X : Type 0} (P : X → Type 0) (xs : List X) (i : ℕ) (x : X) → All P xs → slice_get xs i ≡ Some x → P x
all_at P xs i x all e = subst P (get_or_from_slice_get xs i x x e) (all i x (slice_get_within xs i x e))

-- sets agree on the keys of numbered operations
abbrev pub AgreeOn : Contents → Contents → List (ℕ × Op) → Type 0
AgreeOn s t items = All (λ item. s (key_of item.1) ≡ t (key_of item.1)) items

-- a piece done from one set is done from the other
pub piece_alike : (s t : Contents) (items : List (ℕ × Op)) (piece : List (ℕ × Reply)) → AgreeOn s t items → IsPiece s items piece → IsPiece t items piece
piece_alike s t items piece same h =
    let done = take (length piece) items in
    record {
      few = h.few;
      done = h.done ∙ ap (numbered done)
          (replies_alike (ops_in done) s t
          (All-map (λ op. s (key_of op) ≡ t (key_of op)) (λ (item : ℕ × Op). item.1) done
          (All-take (λ item. s (key_of item.1) ≡ t (key_of item.1)) (length piece) items same)));
      not_done = λ position op e.
          reply_alike op (final t (ops_in done)) (final s (ops_in done))
          (final_agree (ops_in done) t s (key_of op)
          (sym (all_at (λ item. s (key_of item.1) ≡ t (key_of item.1)) items (length piece) (position, op) same e)))
          ∙ h.not_done position op e;
    }

-- and so are pieces of workers
pub pieces_alike : (s t : Contents) (parting : PartedOps) (workers : List ℕ) (pieces : List (List (ℕ × Reply))) →
    All (λ worker. AgreeOn s t (part parting worker)) workers → ArePieces s parting workers pieces → ArePieces t parting workers pieces
pieces_alike s t parting [] [] same h = tt
pieces_alike s t parting [] (piece ∷ pieces) same h = h
pieces_alike s t parting (worker ∷ workers) [] same h = h
pieces_alike s t parting (worker ∷ workers) (piece ∷ pieces) same h = (
  piece_alike s t (part parting worker) piece (All-head (λ w. AgreeOn s t (part parting w)) worker workers same) h.0,
  pieces_alike s t parting workers pieces (All-tail (λ w. AgreeOn s t (part parting w)) worker workers same) h.1,
)

-- one piece a worker
pub length-pieces : (s : Contents) (parting : PartedOps) (workers : List ℕ) (pieces : List (List (ℕ × Reply))) → ArePieces s parting workers pieces →
    length pieces ≡ length workers
length-pieces s parting [] [] h = refl
length-pieces s parting [] (piece ∷ pieces) h = absurd h
length-pieces s parting (worker ∷ workers) [] h = absurd h
length-pieces s parting (worker ∷ workers) (piece ∷ pieces) h = ap suc (length-pieces s parting workers pieces h.1)

-- the pieces of two rows of workers
pub pieces-append : (s : Contents) (parting : PartedOps) (low high : List ℕ) (ps qs : List (List (ℕ × Reply))) →
    ArePieces s parting low ps → ArePieces s parting high qs → ArePieces s parting (low ++ high) (ps ++ qs)
pieces-append s parting [] high [] qs first second = second
pieces-append s parting [] high (p ∷ ps) qs first second = absurd first
pieces-append s parting (worker ∷ low) high [] qs first second = absurd first
pieces-append s parting (worker ∷ low) high (p ∷ ps) qs first second = (first.0, pieces-append s parting low high ps qs first.1 second)

pub done-append : (s : Contents) (parting : PartedOps) (low high : List ℕ) (ps qs : List (List (ℕ × Reply))) → ArePieces s parting low ps →
    ops_done parting (low ++ high) (ps ++ qs) ≡ ops_done parting low ps ++ ops_done parting high qs
done-append s parting [] high [] qs h = refl
done-append s parting [] high (p ∷ ps) qs h = absurd h
done-append s parting (worker ∷ low) high [] qs h = absurd h
done-append s parting (worker ∷ low) high (p ∷ ps) qs h =
    ap (λ l. ops_in (front (part parting worker) p) ++ l) (done-append s parting low high ps qs h.1)
    ∙ sym (append_assoc (ops_in (front (part parting worker) p)) (ops_done parting low ps) (ops_done parting high qs))

-- a worker has nothing to do with a key
abbrev pub IsOffKey : PartedOps → ℕ → ℕ → Type 0
IsOffKey parting key worker = All (λ item. key_of item.1 ≢ key) (part parting worker)

pub front_off_key : (items : List (ℕ × Op)) (key n : ℕ) → All (λ item. key_of item.1 ≢ key) items → on_key key (ops_in (take n items)) ≡ []
front_off_key items key n off =
    none_on_key (ops_in (take n items)) key
    (All-map (λ op. key_of op ≢ key) (λ (item : ℕ × Op). item.1) (take n items) (All-take (λ item. key_of item.1 ≢ key) n items off))

-- then what the workers do has nothing on it
pub done_off_key : (parting : PartedOps) (key : ℕ) (workers : List ℕ) (pieces : List (List (ℕ × Reply))) → All (IsOffKey parting key) workers →
    on_key key (ops_done parting workers pieces) ≡ []
done_off_key parting key [] pieces off = refl
done_off_key parting key (worker ∷ workers) [] off = refl
done_off_key parting key (worker ∷ workers) (piece ∷ pieces) off =
    on_key-append key (ops_in (front (part parting worker) piece)) (ops_done parting workers pieces)
    ∙ ap₂ ◌++◌ (front_off_key (part parting worker) key (length piece) (All-head (IsOffKey parting key) worker workers off))
    (done_off_key parting key workers pieces (All-tail (IsOffKey parting key) worker workers off))
