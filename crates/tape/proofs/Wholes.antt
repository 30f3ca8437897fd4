-- An image that is read record by record.
use Rattle.std.proofs.Common.{◌≡◌, ◌<◌, ◌≤◌, ◌+◌, ◌∙◌, ◌++◌, ◌∷◌, ⊎_elim, ℕ, List, [], Option, Some, length, take, sym, ap, subst, arith}
use Rattle.std.specs.Prelude.{Ok}
use Rattle.std.proofs.lemmas.Grind.{flat_map-append}
use Rattle.std.proofs.lemmas.List.{append-nil, take_all, take_more}
use Rattle.lif_model.specs.Shelf.{bytes_of}
use Rattle.lif_model.specs.Causes.{Rose}
use Rattle.lif_model.specs.Stops.{StandsStill}
use Rattle.lif_model.specs.Tape.{Tape, record_at}
use Rattle.lif_model.proofs.Sizes.{size_bounds}
use Rattle.il_ports.specs.Media.{DidInsert, MediumView}
use Rattle.il_ports.specs.declared.medium.Inserted.TheVariants as inserted
use Rattle.il_ports.specs.declared.medium.New.TheVariants as making
use Rattle.il_host.specs.Whole.{MayHaveLeft}
use Rattle.tape_volumes.specs.declared.went.Went.{Went}
use Rattle.tape_volumes.specs.declared.went.Went.TheVariants as went
use Rattle.tape_volumes.specs.declared.ending.Ending.TheVariants as ending
use Rattle.tape.specs.Images.{DriveSight}
use Rattle.tape.specs.WholeImages.{FailsToRead, IsNotRead, IsReadWhole, IsUnreadable, ReadsInDrive, StaysAsRead, TapeIsRead}

-- the bytes of one record more
pub bytes_more : (t : Tape) (n : ℕ) → n < length t → (before after bytes : List ℕ) → before ≡ bytes_of (take n t) → after ≡ before ++ bytes → bytes ≡ record_at t n → after ≡ bytes_of (take (n + 1) t)
bytes_more t n lt before after bytes was more is =
    more ∙ (λ i. was i ++ is i)
    ∙ sym (ap bytes_of (take_more t n [] lt) ∙ flat_map-append (λ r. r) (take n t) (record_at t n ∷ []) ∙ ap (λ l. bytes_of (take n t) ++ l) (append-nil (record_at t n)))

-- those of all records
pub bytes_all : (t : Tape) (n : ℕ) → length t ≤ n → (bytes : List ℕ) → bytes ≡ bytes_of (take n t) → bytes ≡ bytes_of t
bytes_all t n le bytes is = is ∙ ap bytes_of (take_all n t le)

-- ---- nothing changes

pub stands_on : (a b c : ℕ → Tape → Type 0) → StandsStill a b → StandsStill b c → StandsStill a c
stands_on a b c first next = record {
  nothing_else = λ m x is. first.nothing_else m x (next.nothing_else m x is);
  keeps = λ m x is. next.keeps m x (first.keeps m x is);
}

pub stands_as : (a : ℕ → Tape → Type 0) → StandsStill a a
stands_as a = record { nothing_else = λ m x is. is; keeps = λ m x is. is }

same_tape : (o : Option Tape) (t u : Tape) → o ≡ Some t → o ≡ Some u → t ≡ u
same_tape o t u is so = let both : Some t ≡ Some u = sym is ∙ so in cc

-- ---- the image

module _ (name : List ℕ) (v m w : MediumView) (did : DidInsert name making.No v m (Ok inserted.Tape)) where
  stays_inserted : w.shelf ≡ m.shelf → StaysAsRead name v w
  stays_inserted kept shelf told =
      let took = did.answer_is.1 shelf told in
      record {
        shelf = took.shelf;
        shelf_is = kept ∙ took.shelf_is;
        image = λ t is. took.image ∙ ap (λ (u : Tape). Some (bytes_of u)) (same_tape _ took.content t took.inserted_is is);
        others = took.others;
      }

  -- its tape could not be read
  pub not_read : (refused : Type 0) (went_so : Went) → IsUnreadable went_so m w → IsNotRead refused (ending.Went went_so) name v w
  not_read refused went.Fault why = (subst (λ (n : ℕ). Rose n w.faults) did.goes_on.cause why.0, some_records, stays_inserted why.3)
    where
      some_records : 0 < w.record_count
      some_records = let least = size_bounds m.record_count did.answer_is.0 in omega (arith, least.0, why.1)
  not_read refused went.OutOfMemory why = (why.0 ∙ did.goes_on.cause, stays_inserted why.2)
  not_read refused went.Done why = absurd why
  not_read refused (went.Refused code) why = absurd why
  not_read refused went.Unwritten why = absurd why
  not_read refused went.NoSize why = absurd why
  not_read refused went.NotAll why = absurd why
  not_read refused went.FolderLost why = absurd why

-- the image was inserted, and then its tape was read
pub read_whole : (name bytes : List ℕ) (v m w : MediumView) → DidInsert name making.No v m (Ok inserted.Tape) → TapeIsRead bytes m w → IsReadWhole name bytes v w
read_whole name bytes v m w did read = record {
  reads = λ shelf told.
      let took = did.answer_is.1 shelf told in
      (took.content, took.inserted_is, read.content took.content took.tape_is, λ x left. left_as took.content took.tape_is x left);
  stays = stays_inserted name v m w did read.shelf;
  fits = omega (arith, read.count, (size_bounds m.record_count did.answer_is.0).1);
  faults = read.faults ∙ did.goes_on.cause;
}
  where
    left_as : (t : Tape) → m.tape ≡ Some t → (x : Tape) → MayHaveLeft v w x → x ≡ t
    left_as t is x left = ⊎_elim (λ was. absurd (left.0 was)) (λ now. same_tape m.tape x t now is) (did.since v.moment x (read.since.nothing_else v.moment x left.1))

-- it was read, and then there was no memory for a copy
pub no_memory_for_copy : {M : Type 0} (drives : DriveSight M) (name bytes : List ℕ) → ReadsInDrive drives name bytes → FailsToRead drives name (ending.Went went.OutOfMemory)
no_memory_for_copy drives name bytes read = record {
  drive = read.drive;
  drive_now = read.drive_now;
  given = read.given;
  back = read.back;
  empty = read.empty;
  did = (read.did.faults, read.did.stays);
}
