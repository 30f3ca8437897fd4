-- A file's bytes as a tape.
use Rattle.std.proofs.Common.{◌≡◌, ◌≢◌, ◌∷◌, Bool, true, false, ap₂, ◌<◌, ◌*◌, ◌+◌, ℕ, List, length, set, inl, inr, refl, sym, ap, ◌∙◌, subst, arith}
use Rattle.std.specs.Prelude.{Option, Some, None, Result, Ok, Err, is_some, if◌then◌else◌, unwrap_or}
use Rattle.std.specs.Str.{bytes_eq}
use Rattle.std.proofs.lemmas.Slice.Eq.{bytes_eq-Decides}
use Rattle.lif_model.specs.Tape.{Tape, record_at}
use Rattle.lif_model.specs.Shelf.{Shelf, image_of, bytes_of, cut}
use Rattle.lif_model.specs.Stops.{Torn, Wrote, Elapses}
use Rattle.lif_model.specs.Causes.{HasCause, Rose}
use Rattle.il_ports.specs.Media.{MediumView, DidReadRecord, DidWriteRecord}
use Rattle.il_ports.specs.Inserting.{OthersAreKept}
use Rattle.il_ports.specs.Files.{FileView, byte_at, IsOutside, GrowsTo, Overlaid, TornAt, TimePasses, Rests}
use Rattle.il_ports.specs.Storing.{Filled, StoredBytes}
use Rattle.il_ports.specs.declared.tape_file.Access.{Access}
use Rattle.il_ports.specs.declared.file_tape.StoreFault.{StoreFault}
use Rattle.il_ports.specs.FileTapes.{tape_of_file, shelf_in, tape_view, LeavesTape}
use Rattle.il_ports.specs.FileLaws.{told_bytes}
use Rattle.il_ports.specs.Sizes.{records_of_size}
use Rattle.il_ports.specs.declared.image.Size.{Size}
use Rattle.il_ports.proofs.FileBytes.{record_is, torn_record, written_record}

-- what a tape is told by
pub told_by : (n : ℕ) (old new : Option (List ℕ)) → is_some new ≡ is_some old → is_some (tape_of_file n new) ≡ is_some (tape_of_file n old)
told_by n None None same = refl
told_by n (Some a) (Some b) same = refl
told_by n None (Some b) same = cc
told_by n (Some a) None same = cc

-- the images beside the one that is in
pub beside_first : (name other bytes : List ℕ) (s : Shelf) → other ≢ name → image_of other ((name, bytes) ∷ s) ≡ image_of other s
beside_first name other bytes s ne = go (bytes_eq name other) refl
  where
    go : (b : Bool) → bytes_eq name other ≡ b → (if b then Some bytes else image_of other s) ≡ image_of other s
    go true is = absurd (ne (sym ((bytes_eq-Decides name other).0 is)))
    go false is = refl

pub others_stay : (images : Option Shelf) (named : Option (List ℕ)) (n : ℕ) (old new : Option (List ℕ)) → is_some new ≡ is_some old
    → OthersAreKept named (shelf_in images named (tape_of_file n old)) (shelf_in images named (tape_of_file n new))
others_stay None named n old new told name s named_is is = cc
others_stay (Some images) None n old new told name s named_is is = cc
others_stay (Some images) (Some x) n None new told name s named_is is = cc
others_stay (Some images) (Some x) n (Some a) None told name s named_is is = cc
others_stay (Some images) (Some x) n (Some a) (Some b) told name s named_is is = (
  (x, bytes_of (cut n b)) ∷ images,
  refl,
  λ other ne.
      let apart : other ≢ x = λ same. ne (same ∙ ap (λ (o : Option (List ℕ)). unwrap_or o x) named_is) in
      beside_first x other (bytes_of (cut n b)) images apart ∙ sym (beside_first x other (bytes_of (cut n a)) images apart)
      ∙ ap (λ (o : Option Shelf). image_of other (unwrap_or o images)) is,
)

pub shelf_told : (images : Option Shelf) (named : Option (List ℕ)) (n : ℕ) (old new : Option (List ℕ)) → is_some new ≡ is_some old
    → is_some (shelf_in images named (tape_of_file n new)) ≡ is_some (shelf_in images named (tape_of_file n old))
shelf_told None named n old new told = refl
shelf_told (Some images) None n old new told = refl
shelf_told (Some images) (Some x) n None None told = refl
shelf_told (Some images) (Some x) n (Some a) (Some b) told = refl
shelf_told (Some images) (Some x) n None (Some b) told = cc
shelf_told (Some images) (Some x) n (Some a) None told = cc

module _ {F : Type 0} (view : F → FileView) (images : Option Shelf) (f g : F) (size : Size) (access : Access) (broken broken₂ : Bool) (faults later place k : ℕ) (bytes : List ℕ)
    (lt : k < records_of_size size) (long : length bytes ≡ 256) (at : place ≡ 256 * k) (synced : (view f).seen ≡ (view f).kept) (named : (view g).named ≡ (view f).named) where
  abbrev n : ℕ
  n = records_of_size size

  abbrev old : MediumView
  old = tape_view view images (record { file = f; size = size; access = access; is_broken = broken; faults = faults })

  abbrev new : MediumView
  new = tape_view view images (record { file = g; size = size; access = access; is_broken = broken₂; faults = later })

  -- ---- a read

  read_bytes : Filled place 256 bytes (view f).seen → (t : Tape) → tape_of_file n (view f).kept ≡ Some t → bytes ≡ record_at t k
  read_bytes filled t told =
      let b = told_bytes n (view f).kept t told in
      record_is n k b.0 bytes lt long (λ i below. filled b.0 (synced ∙ b.1) i below ∙ ap (λ (m : ℕ). byte_at b.0 (m + i)) at) ∙ ap (λ (u : Tape). record_at u k) (sym b.2)

  pub did_read : {T E : Type 0} (x : T) → later ≡ faults → Rests (view f) (view g) → Filled place 256 bytes (view f).seen
      → DidReadRecord {T = T} {E = E} k bytes old new (Ok x)
  did_read x none rests filled = record {
    goes_on = record {
      told = ap₂ (λ (x : Option (List ℕ)) (o : Option (List ℕ)). is_some (shelf_in images x (tape_of_file n o))) named rests.kept;
      later = omega (arith, rests.moment);
      cause = none;
    };
    stays_in = record { told = ap (λ (o : Option (List ℕ)). is_some (tape_of_file n o)) rests.kept; inside = named; size = refl };
    content = read_bytes filled;
    tape = ap (tape_of_file n) rests.kept;
    shelf = ap₂ (λ (x : Option (List ℕ)) (o : Option (List ℕ)). shelf_in images x (tape_of_file n o)) named rests.kept;
    moment = rests.moment;
    since = record {
      nothing_else = λ m c left. (left.0, rests.nothing_else m left.0 left.1, left.2);
      keeps = λ m c left. (left.0, rests.keeps m left.0 left.1, left.2);
    };
  }

  -- ---- a write

  torn_bytes : (b c : List ℕ) → TornAt place (length bytes) b b c → Torn k (cut n b) (cut n c)
  torn_bytes b c torn = torn_record n k b c lt
      (λ i out. torn.elsewhere i (subst (λ (m : ℕ). IsOutside m (length bytes) i) (sym at) (subst (λ (m : ℕ). IsOutside (256 * k) m i) (sym long) out)) refl)

  -- the file's length
  pub reaches : TimePasses place (length bytes) (view f) (view g) → (b : List ℕ) → (view f).kept ≡ Some b → (c : List ℕ) × ((view g).kept ≡ Some c) × GrowsTo (256 * (k + 1)) b c
  reaches time b kept =
      let c = time.kept b b (synced ∙ kept) kept in
      (c.0, c.1, record { no_shorter = omega (arith, c.2.no_shorter); no_longer = omega (arith, c.2.no_longer, long, at) })

  time_of : TimePasses place (length bytes) (view f) (view g)
      → Elapses (view f).moment (view g).moment (LeavesTape n (view f).left_since) (LeavesTape n (view g).left_since) (tape_of_file n (view f).kept) (Torn k)
  time_of time = record {
    later = time.later;
    nothing_else = λ t told m c le left.
        let b = told_bytes n (view f).kept t told in
        elim (time.nothing_else b.0 b.0 (synced ∙ b.1) b.1 m left.0 le left.1) [
          | inl earlier ↦ inl (left.0, earlier, left.2)
          | inr torn ↦ inr (subst (λ (u : Tape). Torn k u c) (sym b.2) (subst (Torn k (cut n b.0)) (sym left.2) (torn_bytes b.0 left.0 torn)))
        ];
    keeps = λ m c le past. (past.0, time.keeps m past.0 le past.1, past.2);
  }

  written_bytes : ((s : List ℕ) → (view f).seen ≡ Some s → (t : List ℕ) × ((view g).kept ≡ Some t) × Overlaid place bytes s t)
      → (t : Tape) → tape_of_file n (view f).kept ≡ Some t → tape_of_file n (view g).kept ≡ Some (set t k bytes)
  written_bytes laid t told =
      let b = told_bytes n (view f).kept t told in
      let c = laid b.0 (synced ∙ b.1) in
      ap (tape_of_file n) c.1 ∙ ap Some (written_record n k bytes b.0 c.0 lt long (subst (λ (m : ℕ). Overlaid m bytes b.0 c.0) at c.2) ∙ ap (λ (u : Tape). set u k bytes) (sym b.2))

  left_torn : TimePasses place (length bytes) (view f) (view g) → (t : Tape) → tape_of_file n (view f).kept ≡ Some t → (u : Tape) × (tape_of_file n (view g).kept ≡ Some u) × Torn k t u
  left_torn time t told =
      let b = told_bytes n (view f).kept t told in
      let c = time.kept b.0 b.0 (synced ∙ b.1) b.1 in
      (cut n c.0, ap (tape_of_file n) c.1, subst (λ (u : Tape). Torn k u (cut n c.0)) (sym b.2) (torn_bytes b.0 c.0 c.2))

  did_write : {T E : Type 0} (answer : Result T E) → HasCause faults later answer → TimePasses place (length bytes) (view f) (view g)
      → Wrote k bytes (tape_of_file n (view f).kept) (tape_of_file n (view g).kept) answer → DidWriteRecord k bytes old new answer
  did_write answer cause time wrote = record {
    goes_on = record {
      told = ap (λ (x : Option (List ℕ)). is_some (shelf_in images x (tape_of_file n (view g).kept))) named ∙ shelf_told images (view f).named n (view f).kept (view g).kept time.told;
      later = time.later;
      cause = cause;
    };
    stays_in = record { told = told_by n (view f).kept (view g).kept time.told; inside = named; size = refl };
    content = wrote;
    others = subst (λ (x : Option (List ℕ)). OthersAreKept (view f).named (shelf_in images (view f).named (tape_of_file n (view f).kept)) (shelf_in images x (tape_of_file n (view g).kept))) (sym named)
        (others_stay images (view f).named n (view f).kept (view g).kept time.told);
    time = time_of time;
  }

  pub wrote : {T E S : Type 0} (x : T) (y : S) → later ≡ faults → StoredBytes {T = S} place bytes (view f) (view g) (Ok y)
      → DidWriteRecord {T = T} {E = E} k bytes old new (Ok x)
  wrote x y none stored = did_write (Ok x) none stored.time (written_bytes stored.answer_is.1)

  pub failed : {T E S : Type 0} (x : E) (y : StoreFault) → Rose faults later → StoredBytes {T = S} place bytes (view f) (view g) (Err y)
      → DidWriteRecord {T = T} {E = E} k bytes old new (Err x)
  failed x y rose stored = did_write (Err x) rose stored.time (left_torn stored.time)
