-- What calls of the loop ask for is what their courses have due.
use Rattle.std.proofs.Common.{◌≡◌, ◌+◌, ◌-◌, ◌++◌, ◌==◌, ◌∙◌, ℕ, zero, suc, Bool, true, false, List, [], ◌∷◌, length, get_or, Option, Some, None, refl, sym, ap, ap₂, subst, arith, append_assoc, append-nil, length-append}
use Rattle.std.specs.List.{starts_with}
use Rattle.std.specs.Prelude.{nat_eq, take}
use Rattle.std.specs.Str.{bytes_eq}
use Rattle.std.proofs.Math.Seq.{take-append_seam}
use Rattle.std.proofs.lemmas.Bool.{and_from, eq-eqb}
use Rattle.std.proofs.lemmas.Slice.Eq.{bytes_eq-Decides}
use Rattle.il_frames.specs.declared.frame.Frame.{Frame}
use Rattle.il_frames.specs.Frames.{byte_of}
use Rattle.il_device.specs.State.{DeviceState}
use Rattle.il_frames.specs.NamedFrames.{is_frame, lad, unl}
use Rattle.loop_model.specs.Exchanges.{Answer, NotTaken, ToItsEnd, Stopped, Exchange, Send, Receive, Identify, Sai, Start, Echo, is_exchange, bytes_of}
use Rattle.loop_model.specs.Loops.{Loop}
use Rattle.loop_model.specs.Polls.{poll_enable, poll_unconfigure}
use Rattle.il_control.specs.Receives.{accessory_at}
use Rattle.il_record.specs.Asks.{Ask, AskHear, AskIdentify, AskTell, IsFirstOf, Told, ask_of, told_of, up_to}
use Rattle.il_record.specs.LoopCalls.{id_asks, id_told, ids_of, say_asks}
use Rattle.il_record.specs.Polls.{collect_asks, place_asks}
use Rattle.host_model.specs.Courses.{bytes_due, ids_due, is_commanding, is_id_answer, is_id_told, is_identified, is_said, places_due}
use Rattle.il_host.proofs.Keeping.{Meets, MeetsOne, meets_command, meets_then, same_frame}

-- ---- address by address

-- what is asked for by so many addresses from this one on
abbrev from : (ℕ → List Ask) → ℕ → ℕ → List Ask
from asks k zero = []
from asks k (suc n) = asks k ++ from asks (k + 1) n

from_next : (asks : ℕ → List Ask) (k n : ℕ) → from asks k n ++ asks (k + n) ≡ from asks k (suc n)
from_next asks k zero = let same : k + 0 ≡ k = omega arith in ap asks same ∙ sym (append-nil (asks k))
from_next asks k (suc n) =
    let same : k + suc n ≡ k + 1 + n = omega arith in
    append_assoc (asks k) (from asks (k + 1) n) (asks (k + suc n)) ∙ ap (λ more. asks k ++ (from asks (k + 1) n ++ asks more)) same ∙ ap (λ more. asks k ++ more) (from_next asks (k + 1) n)

up_to_from : (asks : ℕ → List Ask) (n : ℕ) → up_to asks n ≡ from asks 1 n
up_to_from asks zero = refl
up_to_from asks (suc n) =
    let same : suc n ≡ 1 + n = omega arith in
    ap₂ (λ front k. front ++ asks k) (up_to_from asks n) same ∙ from_next asks 1 n

-- ---- accessory IDs

abbrev party_of : Option Told → ℕ
party_of None = 0
party_of (Some t) = t.party

abbrev stopped_of : Option Told → Bool
stopped_of None = true
stopped_of (Some t) = t.stopped

abbrev told_bytes : Option Told → List ℕ
told_bytes None = []
told_bytes (Some t) = t.bytes

-- an accessory ID is told as the host has it
answered : (a : ℕ) (id : Option ℕ) (answer : Answer) → told_of answer ≡ id_told a id → is_id_answer a id answer ≡ true
answered a None NotTaken told = refl
answered a (Some id) (ToItsEnd p ds) told = let stop : false ≡ true = ap stopped_of told in cc
answered a (Some id) (Stopped p [] last) told =
    let byte : byte_of last.sent ≡ id = ap (λ bytes. get_or bytes 0 0) (ap told_bytes told) in
    and_from (p == a) (byte_of last.sent == id) (eq-eqb p a (ap party_of told)) (eq-eqb (byte_of last.sent) id byte)
answered a (Some id) (Stopped p (d ∷ []) last) told = let two : byte_of d.sent ∷ byte_of last.sent ∷ [] ≡ id ∷ [] = ap told_bytes told in cc
answered a (Some id) (Stopped p (d ∷ e ∷ ds) last) told = let more : byte_of d.sent ∷ byte_of e.sent ∷ (bytes_of ds ++ byte_of last.sent ∷ []) ≡ id ∷ [] = ap told_bytes told in cc
answered a _ _ told = cc

meets_id : (l : Loop) (a : ℕ) (id : Option ℕ) → MeetsOne l (AskTell a None Sai (id_told a id)) (is_id_told a id)
meets_id l a id = record { whole = whole; broken = broken }
  where
    by : (b : ℕ) (number : Option ℕ) (start : Start) (answer : Answer) → AskTell b number start (told_of answer) ≡ AskTell a None Sai (id_told a id) → is_id_told a id true (Receive b number start answer) ≡ true
    by b (Some n) start answer is = cc
    by b None Sai answer is =
        let same : b ≡ a = cc in
        let told : told_of answer ≡ id_told a id = cc in
        and_from (b == a) (is_id_answer a id answer) (eq-eqb b a same) (answered a id answer told)
    by b _ _ answer is = cc

    begun : (b : ℕ) (number : Option ℕ) (start : Start) (answer : Answer) (told : Option Told) → AskTell a None Sai (id_told a id) ≡ AskTell b number start told → is_id_told a id false (Receive b number start answer) ≡ true
    begun b None Sai answer told is = let same : b ≡ a = cc in and_from (b == a) true (eq-eqb b a same) refl
    begun b _ _ answer told is = cc

    whole : (x : Exchange) → is_exchange l x ≡ true → ask_of x ≡ AskTell a None Sai (id_told a id) → is_id_told a id true x ≡ true
    whole (Receive b number start answer) legal is = by b number start answer is
    whole _ legal is = cc

    broken : (x : Exchange) → is_exchange l x ≡ true → IsFirstOf (ask_of x) (AskTell a None Sai (id_told a id)) → is_id_told a id false x ≡ true
    broken (Send b number ds) legal is = let clash = is.1 in cc
    broken (Receive b number start answer) legal is = begun b number start answer is.0 is.1
    broken (Identify g) legal is = let clash = is.1 in cc
    broken _ legal is = cc

-- the ID of the device after these
at_front : (front : List DeviceState) (d : DeviceState) (ds : List DeviceState) → accessory_at (length front) (front ++ d ∷ ds) ≡ d.accessory
at_front [] d ds = refl
at_front (e ∷ front) d ds = at_front front d ds

meets_ids_from : (l : Loop) (front ds devices : List DeviceState) (k : ℕ) → devices ≡ front ++ ds → k ≡ length front + 1 → Meets l (from (id_asks devices) k (length ds)) (ids_due k (ids_of ds))
meets_ids_from l front [] devices k are place = tt
meets_ids_from l front (d ∷ ds) devices k are place =
    let before : k - 1 ≡ length front = omega (arith, place) in
    let id : accessory_at (k - 1) devices ≡ d.accessory = ap₂ accessory_at before are ∙ at_front front d ds in
    let behind : devices ≡ (front ++ d ∷ []) ++ ds = are ∙ sym (append_assoc front (d ∷ []) ds) in
    let count : length (front ++ d ∷ []) ≡ length front + 1 = length-append front (d ∷ []) in
    (subst (λ id. MeetsOne l (AskTell k None Sai (id_told k id)) (is_id_told k d.accessory)) (sym id) (meets_id l k d.accessory), meets_ids_from l (front ++ d ∷ []) ds devices (k + 1) behind (omega (arith, place, count)))

-- each device is asked for its ID, in the order of the ring
pub meets_ids : (l : Loop) (devices : List DeviceState) → Meets l (up_to (id_asks devices) (length devices)) (ids_due 1 (ids_of devices))
meets_ids l devices =
    subst (λ asks. Meets l asks (ids_due 1 (ids_of devices))) (sym (up_to_from (id_asks devices) (length devices)))
    (meets_ids_from l [] devices devices 1 refl (omega arith))

-- ---- the parallel poll

meets_identify : (l : Loop) (f : Frame) → MeetsOne l (AskIdentify f) (is_identified f)
meets_identify l f = record { whole = whole; broken = broken }
  where
    whole : (x : Exchange) → is_exchange l x ≡ true → ask_of x ≡ AskIdentify f → is_identified f true x ≡ true
    whole (Identify g) legal is = let same : g ≡ f = cc in subst (λ g. is_frame f g ≡ true) (sym same) (same_frame f)
    whole _ legal is = cc

    broken : (x : Exchange) → is_exchange l x ≡ true → IsFirstOf (ask_of x) (AskIdentify f) → is_identified f false x ≡ true
    broken (Send b number ds) legal is = let clash = is.1 in cc
    broken (Receive b number start answer) legal is = let clash = is.1 in cc
    broken (Identify g) legal is = refl
    broken _ legal is = cc

meets_places_from : (l : Loop) (k n : ℕ) → Meets l (from place_asks k n) (places_due k n)
meets_places_from l k zero = tt
meets_places_from l k (suc n) = (meets_command l unl, (meets_command l (lad k), (meets_command l (poll_enable (7 + k)), meets_places_from l (k + 1) n)))

-- the first devices take their places, all answer, and the places are taken away
pub meets_poll : (l : Loop) (f : Frame) (n : ℕ) → Meets l (up_to place_asks n ++ collect_asks f) (places_due 1 n ++ is_commanding unl ∷ is_identified f ∷ is_commanding poll_unconfigure ∷ [])
meets_poll l f n =
    meets_then l (up_to place_asks n) (collect_asks f) (places_due 1 n) (is_commanding unl ∷ is_identified f ∷ is_commanding poll_unconfigure ∷ [])
    (subst (λ asks. Meets l asks (places_due 1 n)) (sym (up_to_from place_asks n)) (meets_places_from l 1 n))
    (meets_command l unl, (meets_identify l f, (meets_command l poll_unconfigure, tt)))

-- ---- bytes for a printer

same_bytes : (bytes : List ℕ) → bytes_eq bytes bytes ≡ true
same_bytes bytes = (bytes_eq-Decides bytes bytes).1 refl

-- the first ones of some bytes
front_of : (front more bytes : List ℕ) → bytes ≡ front ++ more → starts_with nat_eq bytes front ≡ true
front_of front more bytes are = ap (λ sent. bytes_eq front sent) (ap (λ bytes. take (length front) bytes) are ∙ take-append_seam front more) ∙ same_bytes front

meets_said : (l : Loop) (a : ℕ) (bytes : List ℕ) → MeetsOne l (AskHear a None bytes) (is_said a bytes)
meets_said l a bytes = record { whole = whole; broken = broken }
  where
    by : (b : ℕ) (number : Option ℕ) (ds : List Echo) → AskHear b number (bytes_of ds) ≡ AskHear a None bytes → is_said a bytes true (Send b number ds) ≡ true
    by b (Some n) ds is = cc
    by b None ds is =
        let same : b ≡ a = cc in
        let all : bytes_of ds ≡ bytes = cc in
        and_from (b == a) (bytes_eq bytes (bytes_of ds)) (eq-eqb b a same) (subst (λ sent. bytes_eq bytes sent ≡ true) (sym all) (same_bytes bytes))

    begun : (b : ℕ) (number : Option ℕ) (ds : List Echo) (more : List ℕ) → AskHear a None bytes ≡ AskHear b number (bytes_of ds ++ more) → is_said a bytes false (Send b number ds) ≡ true
    begun b (Some n) ds more is = cc
    begun b None ds more is =
        let same : b ≡ a = cc in
        let all : bytes ≡ bytes_of ds ++ more = cc in
        and_from (b == a) (starts_with nat_eq bytes (bytes_of ds)) (eq-eqb b a same) (front_of (bytes_of ds) more bytes all)

    whole : (x : Exchange) → is_exchange l x ≡ true → ask_of x ≡ AskHear a None bytes → is_said a bytes true x ≡ true
    whole (Send b number ds) legal is = by b number ds is
    whole _ legal is = cc

    broken : (x : Exchange) → is_exchange l x ≡ true → IsFirstOf (ask_of x) (AskHear a None bytes) → is_said a bytes false x ≡ true
    broken (Send b number ds) legal is = begun b number ds is.0 is.1
    broken (Receive b number start answer) legal is = let clash = is.1 in cc
    broken (Identify g) legal is = let clash = is.1 in cc
    broken _ legal is = cc

-- the device of that address is to hear these bytes
pub meets_say : (l : Loop) (a : ℕ) (bytes : List ℕ) → Meets l (say_asks a bytes) (bytes_due (Some a) bytes)
meets_say l a bytes = (meets_said l a bytes, tt)
