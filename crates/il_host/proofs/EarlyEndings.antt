-- How a run ends before its host is opened: what follows from its ending.
use Rattle.std.proofs.Common.{◌≡◌, ◌==◌, ◌∙◌, ◌<◌, inl, ℕ, List, Option, Some, None, if◌then◌else◌, refl, sym, ap, subst}
use Rattle.std.specs.Prelude.{Result, Ok, Err, OnErr}
use Rattle.lif_model.specs.Shelf.{largest_image}
use Rattle.lif_model.specs.Tape.{Tape}
use Rattle.il_device.specs.State.{DeviceState}
use Rattle.il_guest.specs.State.{GuestState}
use Rattle.il_ports.specs.Media.{MediumView, DidInsert}
use Rattle.il_ports.specs.Inserting.{Refuses, records_made}
use Rattle.il_ports.specs.declared.medium.Inserted.{Inserted}
use Rattle.il_ports.specs.declared.medium.Inserted.TheVariants as inserting
use Rattle.il_ports.specs.declared.medium.New.{New}
use Rattle.il_ports.specs.declared.stream.Failed.{Failed}
use Rattle.il_words.specs.declared.words.WordsFault.{WordsFault}
use Rattle.il_words.specs.declared.words.WordsFault.TheVariants as words
use Rattle.host_model.specs.Endings.{HasEndingCause, HasNoTape}
use Rattle.host_model.specs.Endings as end
use Rattle.host_model.specs.Orders.{Order}
use Rattle.host_model.specs.Leaves.{IsEmpty, LeavesBy}
use Rattle.il_host.specs.EarlyEndings.{uninserted_ending, unread_ending}
use Rattle.il_host.specs.Run.{end_of}
use Rattle.il_host.specs.Whole.{FailsBy, outside}
use Rattle.il_host.specs.declared.ending.Ending.{Ending}
use Rattle.il_host.specs.declared.ending.Ending.TheVariants as ending

-- no tape is inserted, and what is outside is as it was
pub stays_empty : (v m : MediumView) → m.record_count ≡ 0 → m.shelf ≡ v.shelf → (left written : Option (List ℕ)) (before after : List DeviceState) (guest : Option GuestState)
    → IsEmpty (outside v left written before after guest) (outside m left written before after guest)
stays_empty v m out same left written before after guest = record {
  untouched = record { left = refl; written = refl; before = refl; after = refl; guest = refl };
  tape = ap (λ n. if n == 0 then None else m.tape) out;
  shelf = same;
}

-- ---- the arguments were not read

by_fault : (P : Ending → Type 0) (e : Ending) (fault : WordsFault) → e ≡ unread_ending fault → (fault ≡ words.Refused → P ending.BadWords) → P ending.OutOfMemory → P e
by_fault P e words.Refused is refused memory = subst P (sym is) (refused refl)
by_fault P e words.OutOfMemory is refused memory = subst P (sym is) memory

module _ (e : Ending) (fault : WordsFault) (is : e ≡ unread_ending fault) where
  pub unread_leaves : (asked : Option Order) → (fault ≡ words.Refused → asked ≡ None) → (v : MediumView) → v.record_count ≡ 0 → (left written : Option (List ℕ)) (before after : List DeviceState) (guest : Option GuestState) (stopped : Tape → Type 0)
      → LeavesBy (end_of e) asked (outside v left written before after guest) (outside v left written before after guest) stopped
  unread_leaves asked refused v out left written before after guest stopped =
      let old = outside v left written before after guest in
      let empty = stays_empty v v out refl left written before after guest in
      by_fault (λ e. LeavesBy (end_of e) asked old old stopped) e fault is
      (λ refuses. subst (λ o. LeavesBy end.BadWords o old old stopped) (sym (refused refuses)) (empty, refl))
      (inl (empty, refl))

  pub unread_cause : (source sink medium : ℕ) → HasEndingCause (end_of e) source source sink sink medium medium
  unread_cause source sink medium = by_fault (λ e. HasEndingCause (end_of e) source source sink sink medium medium) e fault is
      (λ _. record { source = refl; sink = refl; medium = refl }) (record { source = refl; sink = refl; medium = refl })

  pub unread_failed : (asked : Option Order) (refused : List ℕ → Option ℕ → Type 0) → FailsBy (end_of e) asked refused
  unread_failed asked refused = by_fault (λ e. FailsBy (end_of e) asked refused) e fault is (λ _. tt) tt

-- ---- the image was not inserted

pub is_inserted : (answer : Result Inserted Failed) → None ≡ uninserted_ending answer → answer ≡ Ok inserting.Tape
is_inserted (Ok inserting.Tape) is = refl
is_inserted (Ok inserting.NoSuch) is = absurd cc
is_inserted (Ok (inserting.BadSize size)) is = absurd cc
is_inserted (Err fault) is = absurd cc

by_answer : (P : Ending → Result Inserted Failed → Type 0) (e : Ending) (answer : Result Inserted Failed) → Some e ≡ uninserted_ending answer
    → P ending.NoImage (Ok inserting.NoSuch) → ((size : ℕ) → P ending.ImageTooLarge (Ok (inserting.BadSize size))) → ((fault : Failed) → P ending.InsertFailed (Err fault)) → P e answer
by_answer P e (Ok inserting.Tape) is missing large failed = absurd cc
by_answer P e (Ok inserting.NoSuch) is missing large failed = let same : ending.NoImage ≡ e = cc in subst (λ x. P x (Ok inserting.NoSuch)) same missing
by_answer P e (Ok (inserting.BadSize size)) is missing large failed = let same : ending.ImageTooLarge ≡ e = cc in subst (λ x. P x (Ok (inserting.BadSize size))) same (large size)
by_answer P e (Err fault) is missing large failed = let same : ending.InsertFailed ≡ e = cc in subst (λ x. P x (Err fault)) same (failed fault)

-- by the medium v before the insert, and m after it
module _ (e : Ending) (answer : Result Inserted Failed) (is : Some e ≡ uninserted_ending answer) (order : Order) (made : New) (v m : MediumView) (makes : order.made ≡ records_made made) (did : DidInsert order.image made v m answer) where
  module _ (left written : Option (List ℕ)) (before after : List DeviceState) (guest : Option GuestState) where
    still_empty : Refuses v.shelf m.shelf m.inside m.tape m.record_count → IsEmpty (outside v left written before after guest) (outside m left written before after guest)
    still_empty out = stays_empty v m out.out out.same left written before after guest

    pub uninserted_leaves : (asked : Option Order) → Some order ≡ asked → (stopped : Tape → Type 0)
        → LeavesBy (end_of e) asked (outside v left written before after guest) (outside m left written before after guest) stopped
    uninserted_leaves asked asks stopped =
        subst (λ (o : Option Order). LeavesBy (end_of e) o (outside v left written before after guest) (outside m left written before after guest) stopped) asks
        (by_answer (λ e a. DidInsert order.image made v m a → LeavesBy (end_of e) (Some order) (outside v left written before after guest) (outside m left written before after guest) stopped) e answer is
        (λ did. (still_empty did.answer_is.0, record { missing = did.answer_is.2; kept = makes ∙ ap records_made did.answer_is.1 }))
        (λ size did. (still_empty did.answer_is.0, record { found = λ shelf told. let there = did.answer_is.2 shelf told in (there.0, there.1, subst (λ n. largest_image < n) (sym there.2) did.answer_is.1) }))
        (λ fault did. still_empty did.answer_is)
        did)

  pub uninserted_cause : (source sink : ℕ) → HasEndingCause (end_of e) source source sink sink v.faults m.faults
  uninserted_cause source sink =
      by_answer (λ e a. DidInsert order.image made v m a → HasEndingCause (end_of e) source source sink sink v.faults m.faults) e answer is
      (λ did. record { source = refl; sink = refl; medium = did.goes_on.cause })
      (λ size did. record { source = refl; sink = refl; medium = did.goes_on.cause })
      (λ fault did. record { source = refl; sink = refl; medium = did.goes_on.cause })
      did

  pub uninserted_failed : (asked : Option Order) → Some order ≡ asked → (refused : List ℕ → Option ℕ → Type 0) → OnErr answer (refused order.image (records_made made)) → FailsBy (end_of e) asked refused
  uninserted_failed asked asks refused cause =
      subst (λ (o : Option Order). FailsBy (end_of e) o refused) asks
      (by_answer (λ e a. OnErr a (refused order.image (records_made made)) → FailsBy (end_of e) (Some order) refused) e answer is
      (λ _. tt) (λ size _. tt) (λ fault cause. subst (λ n. refused order.image n) (sym makes) cause) cause)

  pub uninserted_empty : m.record_count ≡ 0
  uninserted_empty =
      by_answer (λ e a. DidInsert order.image made v m a → m.record_count ≡ 0) e answer is (λ did. did.answer_is.0.out) (λ size did. did.answer_is.0.out) (λ fault did. did.answer_is.out) did
