-- How much room of the log exchanges take.
use Rattle.std.proofs.Common.{◌≡◌, ◌≤◌, ◌+◌, ◌++◌, ℕ, suc, true, [], ◌∷◌, List, length, map, Option, Some, None, ap, arith, length-append}
use Rattle.std.proofs.lemmas.Bool.{eqb-true, leb-true}
use Rattle.std.proofs.lemmas.List.{length-map}
use Rattle.il_frames.specs.Frames.{byte_of}
use Rattle.il_frames.specs.declared.frame.Frame.{Frame}
use Rattle.il_frames.specs.declared.entry.Entry.{Entry}
use Rattle.il_frames.specs.declared.entry.Outcome.TheVariants as outcome
use Rattle.il_device.specs.Takes.{eto}
use Rattle.il_ports.specs.Media.{MediumView}
use Rattle.il_frames.specs.NamedFrames.{entry, unt, nrd}
use Rattle.loop_model.specs.Exchanges.{Answer, NotTaken, ToItsEnd, Stopped, Echo, Exchange, Command, Send, Receive, Start, answer_entries, commanded, cut_at, echoed, entries_of, returned, start_frame, bytes_of, receive_front}
use Rattle.loop_model.proofs.UnitLaws.{entries_of-receive, length-send, length-cut}
use Rattle.il_ring.specs.Adds.{Adds}
use Rattle.il_ring.specs.Rings.{RingView, devices_of, spare_of}
use Rattle.il_control.specs.Calls.{Made, BrokenOff, Resumed, NotResumed, addressing}
use Rattle.il_control.proofs.Calls.{room_after}
use Rattle.il_control.specs.Receives.{Received, NotReceived, received, fits}
use Rattle.il_record.specs.Sends.{SentAll, SendBroke}

-- n entries at most
used : {M : Type 0} (view : M → MediumView) (r s : RingView M) (a b : Option ℕ) (es : List Entry) (n : ℕ) → Adds view r a es b s → length es ≤ n → spare_of r ≤ spare_of s + n
used view r s a b es n adds few =
    let log = ap (λ log. length log) adds.log in
    let parts = length-append r.books.log es in
    let room = adds.room in
    omega (arith, log, parts, room, few)

pub made_used : {M : Type 0} (view : M → MediumView) (x : Exchange) (n : ℕ) (r s : RingView M) → Made view x r s → length (entries_of 0 x) ≤ n → spare_of r ≤ spare_of s + n
made_used view x n r s made few = used view r s None None (entries_of 0 x) n made.whole.adds few

pub broken_used : {M : Type 0} (view : M → MediumView) (x : Exchange) (n : ℕ) (r s : RingView M) → BrokenOff view x r s → length (entries_of 0 x) + 1 ≤ n → spare_of r ≤ spare_of s + n
broken_used view x n r s not few =
    let broke = not.broke in
    let long = length-cut (entries_of 0 x) broke.standing broke.break in
    used view r s None broke.held_at_end (cut_at (entries_of 0 x) broke.standing broke.break) n broke.adds (omega (arith, long, few))

-- one after the other
pub used_on : (r m s first more n : ℕ) → r ≤ m + first → m ≤ s + more → first + more ≤ n → r ≤ s + n
used_on r m s first more n one two few = omega (arith, one, two, few)

-- ---- a receive

front_long : (a : ℕ) (number : Option ℕ) → length (receive_front 0 a number) ≤ 6
front_long a None = omega arith
front_long a (Some n) = omega arith

answer_long : (start : Frame) (answer : Answer) → length (answer_entries 0 start answer) ≤ length (received answer) + 4
answer_long start NotTaken = omega arith
answer_long start (ToItsEnd p ds) =
    let a = length-append (map (echoed p) ds) (entry p eto (outcome.Taken 0) ∷ []) in
    let b = length-map ds (echoed p) in
    let c = length-map ds (λ (d : Echo). byte_of d.sent) in
    omega (arith, a, b, c)
answer_long start (Stopped p ds last) =
    let a = length-append (map (echoed p) ds) (returned 0 nrd ∷ echoed p last ∷ entry p eto (outcome.Taken 0) ∷ []) in
    let b = length-map ds (echoed p) in
    let c = length-map ds (λ (d : Echo). byte_of d.sent) in
    let e = length-append (bytes_of ds) (byte_of last.sent ∷ []) in
    omega (arith, a, b, c, e)

-- a receive has an entry for each byte, and at most twelve more
pub received_long : (a : ℕ) (number : Option ℕ) (start : Start) (answer : Answer) → length (entries_of 0 (Receive a number start answer)) ≤ length (received answer) + 12
received_long a number start answer =
    let spread = ap (λ (es : List Entry). length es) (entries_of-receive 0 a number start answer) in
    let front = length-append (receive_front 0 a number) (answer_entries 0 (start_frame start) answer ++ commanded 0 unt) in
    let back = length-append (answer_entries 0 (start_frame start) answer) (commanded 0 unt) in
    let head = front_long a number in
    let middle = answer_long (start_frame start) answer in
    omega (arith, spread, front, back, head, middle)

pub received_room : {M : Type 0} (view : M → MediumView) (a n more : ℕ) (number : Option ℕ) (start : Start) (r : RingView M) (old new : List ℕ) (s : RingView M) → Received view a number start n r old new s → n + 12 + more ≤ spare_of r → more ≤ spare_of s
received_room view a n more number start r old new s got room =
    let long = received_long a number start got.answer in
    let many = got.count in
    room_after view r s (entries_of 0 (Receive a number start got.answer)) more got.made.whole (omega (arith, long, many, room))

-- ---- calls

pub sent_used : {M : Type 0} (view : M → MediumView) (a : ℕ) (number : Option ℕ) (m : ℕ) (bytes : List ℕ) (r s : RingView M) → SentAll view a number bytes r s → length bytes ≡ m → spare_of r ≤ spare_of s + (m + 6)
sent_used view a number m bytes r s so long =
    let entries = length-send 0 a number so.ds in
    let many = so.many in
    made_used view (Send a number so.ds) (m + 6) r s so.made (omega (arith, entries, many, long))

pub send_broke_used : {M : Type 0} (view : M → MediumView) (a : ℕ) (number : Option ℕ) (m : ℕ) (bytes : List ℕ) (r s : RingView M) → SendBroke view a number bytes r s → length bytes ≡ m → spare_of r ≤ spare_of s + (m + 7)
send_broke_used view a number m bytes r s not long =
    let entries = length-send 0 a number not.ds in
    let within = not.within in
    broken_used view (Send a number not.ds) (m + 7) r s not.broken (omega (arith, entries, within, long))

pub received_used : {M : Type 0} (view : M → MediumView) (a n : ℕ) (number : Option ℕ) (start : Start) (r : RingView M) (old new : List ℕ) (s : RingView M) → Received view a number start n r old new s → spare_of r ≤ spare_of s + (length old + 12)
received_used view a n number start r old new s got =
    let long = received_long a number start got.answer in
    let many = got.count in
    let within = got.within in
    made_used view (Receive a number start got.answer) (length old + 12) r s got.made (omega (arith, long, many, within))

fitting : (w : ℕ) (answer : Answer) → fits w answer ≡ true → length (received answer) ≤ w
fitting w NotTaken fit = omega arith
fitting w (ToItsEnd p ds) fit =
    let many = length-map ds (λ (d : Echo). byte_of d.sent) in
    let within = leb-true (length ds) w fit in
    omega (arith, many, within)
fitting w (Stopped p ds last) fit =
    let many = length-map ds (λ (d : Echo). byte_of d.sent) in
    let all = length-append (bytes_of ds) (byte_of last.sent ∷ []) in
    let exact = eqb-true (suc (length ds)) w fit in
    omega (arith, many, all, exact)

pub not_received_used : {M : Type 0} (view : M → MediumView) (a w : ℕ) (number : Option ℕ) (start : Start) (r s : RingView M) → NotReceived view a number start w r s → spare_of r ≤ spare_of s + (w + 13)
not_received_used view a w number start r s not =
    let long = received_long a number start not.answer in
    let fit = fitting w not.answer not.fitting in
    broken_used view (Receive a number start not.answer) (w + 13) r s not.broken (omega (arith, long, fit))

pub command_used : {M : Type 0} (view : M → MediumView) (f : Frame) (r s : RingView M) → Made view (Command f) r s → spare_of r ≤ spare_of s + 2
command_used view f r s made = made_used view (Command f) 2 r s made (omega arith)

pub command_not_used : {M : Type 0} (view : M → MediumView) (f : Frame) (r s : RingView M) → BrokenOff view (Command f) r s → spare_of r ≤ spare_of s + 3
command_not_used view f r s not = broken_used view (Command f) 3 r s not (omega arith)

pub resumed_used : {M : Type 0} (view : M → MediumView) (n : ℕ) (r s : RingView M) → Resumed view n r s → spare_of r ≤ spare_of s + 5
resumed_used view n r s done = used view r s None None (addressing n) 5 done.whole.adds (omega arith)

pub not_resumed_used : {M : Type 0} (view : M → MediumView) (r s : RingView M) → NotResumed view r s → spare_of r ≤ spare_of s + 6
not_resumed_used view r s not =
    let broke = not.broke in
    let long = length-cut (addressing (length (devices_of r))) broke.standing broke.break in
    used view r s None broke.held_at_end (cut_at (addressing (length (devices_of r))) broke.standing broke.break) 6 broke.adds (omega (arith, long))
