-- Laws of the entries of sends and receives, of the bytes that they moved, and of the units that they are.
use Rattle.std.proofs.Common.{◌≡◌, ◌≤◌, ◌∙◌, ◌+◌, ◌++◌, ℕ, zero, suc, Bool, true, false, List, [], ◌∷◌, Option, Some, None, map, length, refl, sym, ap, arith, append_assoc, append-nil}
use Rattle.std.specs.Prelude.{if◌then◌else◌}
use Rattle.std.specs.List.{list_all}
use Rattle.std.proofs.lemmas.Bool.{and_parts}
use Rattle.std.proofs.lemmas.Bool.Decides.{nat_tests}
use Rattle.std.proofs.lemmas.List.{length-map}
use Rattle.std.proofs.lemmas.Grind.{flat_map-append}
use Rattle.il_frames.specs.declared.frame.Frame.{Frame}
use Rattle.il_frames.specs.declared.entry.Entry.{Entry}
use Rattle.il_frames.specs.declared.entry.Outcome.TheVariants as outcome
use Rattle.il_frames.specs.Frames.{byte_of, is_data, same_but_service}
use Rattle.il_device.specs.Takes.{eto}
use Rattle.il_frames.specs.NamedFrames.{entry, unt, nrd}
use Rattle.loop_model.specs.Reach.{distance}
use Rattle.loop_model.specs.Exchanges.{Echo, Send, Receive, Start, Sda, Sst, Sdi, Sai, Answer, NotTaken, ToItsEnd, Stopped, Break, FrameLost, HostAltered, TalkerAltered, start_frame, returned, commanded, echoed, answer_entries, entries_of, cut_at, is_echo, receive_front, bytes_of}
use Rattle.loop_model.specs.Units.{sent_bytes}

-- ---- distances

-- a frame that comes back to its source has gone round
pub distance-self : (k s : ℕ) → distance k s s ≡ suc k
distance-self k s = grind (arith, nat_tests)

-- ---- the entries of a receive

-- up to the data frames so far
abbrev pub receive_open : ℕ → ℕ → Option ℕ → Frame → ℕ → List Echo → List Entry
receive_open c a number start p ds = receive_front c a number ++ entry c start (outcome.Taken p) ∷ map (echoed p) ds

pub entries_of-receive : (c a : ℕ) (number : Option ℕ) (s : Start) (answer : Answer) →
    entries_of c (Receive a number s answer) ≡ receive_front c a number ++ (answer_entries c (start_frame s) answer ++ commanded c unt)
entries_of-receive c a number s answer = append_assoc (receive_front c a number) (answer_entries c (start_frame s) answer) (commanded c unt)

-- the end
pub entries_of-to_its_end : (c a : ℕ) (number : Option ℕ) (s : Start) (p : ℕ) (ds : List Echo) →
    entries_of c (Receive a number s (ToItsEnd p ds)) ≡ receive_open c a number (start_frame s) p ds ++ entry p eto (outcome.Taken c) ∷ commanded c unt
entries_of-to_its_end c a number s p ds =
    entries_of-receive c a number s (ToItsEnd p ds)
    ∙ ap (λ (es : List Entry). receive_front c a number ++ entry c (start_frame s) (outcome.Taken p) ∷ es) (append_assoc (map (echoed p) ds) (entry p eto (outcome.Taken c) ∷ []) (commanded c unt))
    ∙ sym (append_assoc (receive_front c a number) (entry c (start_frame s) (outcome.Taken p) ∷ map (echoed p) ds) (entry p eto (outcome.Taken c) ∷ commanded c unt))

pub entries_of-stopped : (c a : ℕ) (number : Option ℕ) (s : Start) (p : ℕ) (ds : List Echo) (last : Echo) →
    entries_of c (Receive a number s (Stopped p ds last)) ≡
    receive_open c a number (start_frame s) p ds ++ returned c nrd ∷ echoed p last ∷ entry p eto (outcome.Taken c) ∷ commanded c unt
entries_of-stopped c a number s p ds last =
    entries_of-receive c a number s (Stopped p ds last)
    ∙ ap (λ (es : List Entry). receive_front c a number ++ entry c (start_frame s) (outcome.Taken p) ∷ es)
    (append_assoc (map (echoed p) ds) (returned c nrd ∷ echoed p last ∷ entry p eto (outcome.Taken c) ∷ []) (commanded c unt))
    ∙ sym (append_assoc (receive_front c a number) (entry c (start_frame s) (outcome.Taken p) ∷ map (echoed p) ds) (returned c nrd ∷ echoed p last ∷ entry p eto (outcome.Taken c) ∷ commanded c unt))

-- ---- lengths

-- a send has an entry for each byte, and at most six before them
pub length-send : (c a : ℕ) (number : Option ℕ) (ds : List Echo) → length (entries_of c (Send a number ds)) ≤ length ds + 6
length-send c a None ds = let n = length-map ds (echoed c) in omega (arith, n)
length-send c a (Some m) ds = let n = length-map ds (echoed c) in omega (arith, n)

-- ---- the bytes that were sent

pub sent_bytes-append : (first second : List Entry) → sent_bytes (first ++ second) ≡ sent_bytes first ++ sent_bytes second
sent_bytes-append first second = flat_map-append (λ e. if is_data e.frame then byte_of e.frame ∷ [] else []) first second

pub one_byte : (b : Bool) (byte : ℕ) (bytes : List ℕ) → b ≡ true → (if b then byte ∷ [] else []) ++ bytes ≡ byte ∷ bytes
one_byte true byte bytes e = refl
one_byte false byte bytes e = cc

sent_data : (d : Echo) → is_echo d ≡ true → is_data d.sent ≡ true
sent_data d e = (and_parts (is_data d.sent) (same_but_service d.sent d.back) e).0

-- data frames sent their bytes
pub sent_bytes-echoed : (p : ℕ) (ds : List Echo) → list_all is_echo ds ≡ true → sent_bytes (map (echoed p) ds) ≡ bytes_of ds
sent_bytes-echoed p [] e = refl
sent_bytes-echoed p (d ∷ ds) e =
    let parts = and_parts (is_echo d) (list_all is_echo ds) e in
    one_byte (is_data d.sent) (byte_of d.sent) (sent_bytes (map (echoed p) ds)) (sent_data d parts.0)
    ∙ ap (λ (bytes : List ℕ). byte_of d.sent ∷ bytes) (sent_bytes-echoed p ds parts.1)

-- a send sent its bytes
pub sent_bytes-send : (c a : ℕ) (number : Option ℕ) (ds : List Echo) → list_all is_echo ds ≡ true → sent_bytes (entries_of c (Send a number ds)) ≡ bytes_of ds
sent_bytes-send c a None ds e = sent_bytes-echoed c ds e
sent_bytes-send c a (Some n) ds e = sent_bytes-echoed c ds e

no_data_front : (c a : ℕ) (number : Option ℕ) (rest : List Entry) → sent_bytes (receive_front c a number ++ rest) ≡ sent_bytes rest
no_data_front c a None rest = refl
no_data_front c a (Some n) rest = refl

start_no_data : (s : Start) → is_data (start_frame s) ≡ false
start_no_data Sda = refl
start_no_data Sst = refl
start_no_data Sdi = refl
start_no_data Sai = refl

no_byte : (b : Bool) (byte : ℕ) (bytes : List ℕ) → b ≡ false → (if b then byte ∷ [] else []) ++ bytes ≡ bytes
no_byte true byte bytes e = cc
no_byte false byte bytes e = refl

-- the data frames of a receive so far
pub sent_bytes-open : (c a : ℕ) (number : Option ℕ) (s : Start) (p : ℕ) (ds : List Echo) → list_all is_echo ds ≡ true →
    sent_bytes (receive_open c a number (start_frame s) p ds) ≡ bytes_of ds
sent_bytes-open c a number s p ds e =
    no_data_front c a number _ ∙ no_byte (is_data (start_frame s)) (byte_of (start_frame s)) (sent_bytes (map (echoed p) ds)) (start_no_data s) ∙ sent_bytes-echoed p ds e

-- a receive to its end brought its bytes
pub sent_bytes-to_its_end : (c a : ℕ) (number : Option ℕ) (s : Start) (p : ℕ) (ds : List Echo) → list_all is_echo ds ≡ true →
    sent_bytes (entries_of c (Receive a number s (ToItsEnd p ds))) ≡ bytes_of ds
sent_bytes-to_its_end c a number s p ds e =
    ap sent_bytes (entries_of-to_its_end c a number s p ds)
    ∙ sent_bytes-append (receive_open c a number (start_frame s) p ds) (entry p eto (outcome.Taken c) ∷ commanded c unt)
    ∙ ap (λ (bytes : List ℕ). bytes ++ []) (sent_bytes-open c a number s p ds e) ∙ append-nil (bytes_of ds)

-- and so did one that was stopped
pub sent_bytes-stopped : (c a : ℕ) (number : Option ℕ) (s : Start) (p : ℕ) (ds : List Echo) (last : Echo) → list_all is_echo ds ≡ true → is_echo last ≡ true →
    sent_bytes (entries_of c (Receive a number s (Stopped p ds last))) ≡ bytes_of ds ++ byte_of last.sent ∷ []
sent_bytes-stopped c a number s p ds last e f =
    ap sent_bytes (entries_of-stopped c a number s p ds last)
    ∙ sent_bytes-append (receive_open c a number (start_frame s) p ds) (returned c nrd ∷ echoed p last ∷ entry p eto (outcome.Taken c) ∷ commanded c unt)
    ∙ ap (λ (bytes : List ℕ). bytes ++ sent_bytes (returned c nrd ∷ echoed p last ∷ entry p eto (outcome.Taken c) ∷ commanded c unt)) (sent_bytes-open c a number s p ds e)
    ∙ ap (λ (bytes : List ℕ). bytes_of ds ++ bytes) (one_byte (is_data last.sent) (byte_of last.sent) [] (sent_data last f))

-- one that was not taken brought none
pub sent_bytes-not_taken : (c a : ℕ) (number : Option ℕ) (s : Start) → sent_bytes (entries_of c (Receive a number s NotTaken)) ≡ []
sent_bytes-not_taken c a number s =
    ap sent_bytes (entries_of-receive c a number s NotTaken)
    ∙ no_data_front c a number (returned c (start_frame s) ∷ commanded c unt)
    ∙ no_byte (is_data (start_frame s)) (byte_of (start_frame s)) [] (start_no_data s)

-- ---- more lengths

-- a broken exchange has at most one entry more than the whole one
pub length-cut : (es : List Entry) (n : ℕ) (b : Break) → length (cut_at es n b) ≤ length es + 1
length-cut [] n b = omega arith
length-cut (e ∷ es) zero (FrameLost q) = omega arith
length-cut (e ∷ es) zero (HostAltered f) = omega arith
length-cut (e ∷ es) zero (TalkerAltered f end) = omega arith
length-cut (e ∷ es) (suc n) b = let rest = length-cut es n b in omega (arith, rest)
