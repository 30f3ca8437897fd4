-- A batch of a script, as parts are added to it.
use Rattle.std.proofs.Common.{◌≡◌, ◌≤◌, ◌+◌, ◌++◌, ◌&&◌, ℕ, List, [], ◌∷◌, Bool, true, false, if◌then◌else◌, nat_lt, nat_le, length, length-append, map, take, drop, Some, refl, sym, ap, subst, ◌∙◌, arith}
use Rattle.std.specs.Prelude.{All}
use Rattle.std.proofs.lemmas.List.{length-map, map-append, take-append-le, drop-append-le, length-drop, take_all, append-nil}
use Rattle.std.proofs.Math.Seq.{drop-append_seam}
use Rattle.std.proofs.lemmas.List.Elements.{All-append, All-cons, All-nil, All-head, All-tail}
use Rattle.lif_model.specs.Parts.{most_parts}
use Rattle.lif_model.specs.Parts as model
use Rattle.lif_dir.specs.Batches.{BatchView, has_room, IsPartOf, bytes_at, part_of, parts_of}
use Rattle.lif_dir.specs.declared.batch.Part.{Part}
use Rattle.lif_dir.specs.declared.batch.Part.TheVariants.{Store}
use Rattle.lif_dir.specs.declared.names.NewName.{NewName}
use Rattle.lif_dir.specs.Entries.{name_bytes}
use Rattle.lif_dir.specs.Names.{made_name}
use Rattle.il_script.specs.declared.reply.Code.TheVariants as code
use Rattle.host_model.specs.Requests.{bytes_brought, all_brought, has_room_for, with_part, Within, Spoilt}
use Rattle.il_host.specs.Gathering.{stands_open, IsGathered}
use Rattle.il_host.specs.declared.gathering.Gathering.{Gathering}
use Rattle.il_host.specs.declared.gathering.Gathering.TheVariants as gathering

-- ---- the bytes of parts, beside more bytes

bytes_still : (from size : ℕ) (xs ys : List ℕ) → from + size ≤ length xs → bytes_at (xs ++ ys) from size ≡ bytes_at xs from size
bytes_still from size xs ys le = ap (take size) (drop-append-le from xs ys (omega (arith, le))) ∙ take-append-le size (drop from xs) ys (omega (arith, le, length-drop from xs))

bytes_last : (xs ys : List ℕ) → bytes_at (xs ++ ys) (length xs) (length ys) ≡ ys
bytes_last xs ys = ap (take (length ys)) (drop-append_seam xs ys) ∙ take_all (length ys) ys (omega arith)

part_still : (xs ys : List ℕ) (p : Part) → IsPartOf (length xs) p → part_of (xs ++ ys) p ≡ part_of xs p
part_still xs ys (Store name kind implementation from size) is = ap (model.Store (name_bytes (made_name name)) kind implementation) (bytes_still from size xs ys is.0)
part_still xs ys _ is = refl

parts_still : (xs ys : List ℕ) (ps : List Part) → All (IsPartOf (length xs)) ps → map (part_of (xs ++ ys)) ps ≡ map (part_of xs) ps
parts_still xs ys [] each = refl
parts_still xs ys (p ∷ ps) each =
    (λ i. part_still xs ys p (All-head (IsPartOf (length xs)) p ps each) i ∷ parts_still xs ys ps (All-tail (IsPartOf (length xs)) p ps each) i)

part_longer : (count more : ℕ) (p : Part) → count ≤ more → IsPartOf count p → IsPartOf more p
part_longer count more (Store name kind implementation from size) le is = (omega (arith, le, is.0), is.1, is.2)
part_longer count more _ le is = tt

parts_longer : (count more : ℕ) (ps : List Part) → count ≤ more → All (IsPartOf count) ps → All (IsPartOf more) ps
parts_longer count more [] le each = All-nil (IsPartOf more)
parts_longer count more (p ∷ ps) le each = All-cons (IsPartOf more) p ps (part_longer count more p le (All-head (IsPartOf count) p ps each)) (parts_longer count more ps le (All-tail (IsPartOf count) p ps each))

all_more : (ps : List model.Part) (p : model.Part) → all_brought (ps ++ p ∷ []) ≡ all_brought ps + bytes_brought p
all_more [] p = omega arith
all_more (q ∷ ps) p = omega (arith, all_more ps p)

-- ---- a part more

room_same : (b : BatchView) (p : model.Part) → IsGathered b → has_room_for (parts_of b) p ≡ has_room b (bytes_brought p)
room_same b p is = λ i. nat_lt (length-map b.parts (part_of b.bytes) i) most_parts && nat_le (is.sum i + bytes_brought p) 630784

-- with a part of these bytes
abbrev with_more : BatchView → Part → List ℕ → BatchView
with_more b p bytes = record { parts = b.parts ++ p ∷ []; bytes = b.bytes ++ bytes }

parts_more : (b : BatchView) (p : Part) (bytes : List ℕ) → IsGathered b → parts_of (with_more b p bytes) ≡ parts_of b ++ part_of (b.bytes ++ bytes) p ∷ []
parts_more b p bytes is = map-append (part_of (b.bytes ++ bytes)) b.parts (p ∷ [])
    ∙ ap (λ (ps : List model.Part). ps ++ part_of (b.bytes ++ bytes) p ∷ []) (parts_still b.bytes bytes b.parts is.each)

gathered_more : (b : BatchView) (p : Part) (bytes : List ℕ) → IsGathered b → IsPartOf (length (b.bytes ++ bytes)) p → bytes_brought (part_of (b.bytes ++ bytes) p) ≡ length bytes → IsGathered (with_more b p bytes)
gathered_more b p bytes is one brought = record {
  each = All-append (IsPartOf (length (b.bytes ++ bytes))) b.parts (p ∷ []) (parts_longer (length b.bytes) (length (b.bytes ++ bytes)) b.parts (omega (arith, length-append b.bytes bytes)) is.each)
      (All-cons (IsPartOf (length (b.bytes ++ bytes))) p [] one (All-nil (IsPartOf (length (b.bytes ++ bytes)))));
  sum = ap all_brought (parts_more b p bytes is) ∙ all_more (parts_of b) (part_of (b.bytes ++ bytes) p) ∙ omega (arith, is.sum, brought, length-append b.bytes bytes);
}

-- the part is added, or there is no room for it
module _ (b new : BatchView) (p : Part) (asked : model.Part) (bytes : List ℕ) (added : Bool) (after : Gathering) (is : IsGathered b) (one : IsPartOf (length (b.bytes ++ bytes)) p) (means : part_of (b.bytes ++ bytes) p ≡ asked)
    (brought : bytes_brought asked ≡ length bytes) (room : added ≡ has_room b (length bytes)) (adds : new ≡ (if added then with_more b p bytes else b)) (opens : after ≡ (if added then gathering.Within else gathering.Spoilt code.BatchTooLarge)) where
  pub added_gathered : IsGathered new
  added_gathered = subst IsGathered (sym adds) (go added)
    where
      go : (a : Bool) → IsGathered (if a then with_more b p bytes else b)
      go true = gathered_more b p bytes is one (ap bytes_brought means ∙ brought)
      go false = is

  pub added_stands : stands_open after new ≡ with_part (parts_of b) (Some asked)
  added_stands =
      (λ i. stands_open (opens i) (adds i)) ∙ go added ∙ ap (λ (a : Bool). if a then Within (parts_of b ++ asked ∷ []) else Spoilt code.BatchTooLarge)
      (room ∙ ap (has_room b) (sym brought) ∙ sym (room_same b asked is))
    where
      go : (a : Bool) → stands_open (if a then gathering.Within else gathering.Spoilt code.BatchTooLarge) (if a then with_more b p bytes else b)
          ≡ (if a then Within (parts_of b ++ asked ∷ []) else Spoilt code.BatchTooLarge)
      go true = ap Within (parts_more b p bytes is ∙ ap (λ (q : model.Part). parts_of b ++ q ∷ []) means)
      go false = refl

-- a store
module _ (b new : BatchView) (name : NewName) (kind : ℕ) (implementation bytes : List ℕ) where
  pub means_store : part_of (b.bytes ++ bytes) (Store name kind implementation (length b.bytes) (length bytes)) ≡ model.Store (name_bytes (made_name name)) kind implementation bytes
  means_store = ap (model.Store (name_bytes (made_name name)) kind implementation) (bytes_last b.bytes bytes)

  pub store_within : length b.bytes + length bytes ≤ length (b.bytes ++ bytes)
  store_within = omega (arith, length-append b.bytes bytes)

-- the batch with a part that brings no bytes
pub same_bytes : (b : BatchView) (p : Part) → record b { parts = b.parts ++ p ∷ [] } ≡ with_more b p []
same_bytes b p = λ i. record { parts = b.parts ++ p ∷ []; bytes = sym (append-nil b.bytes) i }
