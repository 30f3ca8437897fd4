-- Sends, byte after byte.
use Rattle.std.proofs.Common.{◌≡◌, ◌∙◌, ◌^◌, ◌*◌, ◌/◌, ◌%◌, ap₂, true, ◌≤◌, ◌<◌, ◌+◌, ◌++◌, ℕ, zero, suc, List, [], ◌∷◌, Some, length, take, get_or, refl, sym, ap, subst, arith, length-append}
use Rattle.std.proofs.Math.Nat.{mod-eq_of_lt, div-lt_iff_lt-mul, div-add-mod}
use Rattle.std.proofs.Math.Seq.{take-length, take-append_seam}
use Rattle.std.specs.Prelude.{replicate, not, is_some, Option, Result, Ok, Err, IfOk, IfErr, IsErr}
use Rattle.std.specs.Result.{IsErrAnd}
use Rattle.std.proofs.lemmas.List.{map-append, length-take-le, get_or-take, length-replicate}
use Rattle.il_frames.specs.declared.frame.Class.TheVariants as class
use Rattle.il_frames.specs.Frames.{byte_of, framed, is_data}
use Rattle.il_ports.specs.Media.{MediumView}
use Rattle.loop_model.specs.Exchanges.{Echo, Send, entries_of, bytes_of}
use Rattle.loop_model.proofs.UnitLaws.{length-send}
use Rattle.il_ring.specs.Rings.{RingView, devices_of, spare_of}
use Rattle.il_ring.specs.Lists.{Each}
use Rattle.il_control.specs.Calls.{AllStay, IsIdle, IsTold, Made, BrokenOff, Sent, NotSent, sent_as}
use Rattle.il_control.proofs.Calls.{room_after}
use Rattle.il_control.specs.Brought.{AllCome}
use Rattle.il_control.proofs.Brings.{send_brings}
use Rattle.il_control.proofs.Sends.{send_more, send_breaks}
use Rattle.il_frames.specs.declared.frame.Frame.{Frame}
use Rattle.std.specs.Int.{to_be_bytes, w16}
use Rattle.il_drive.specs.Runs.{Ran}
use Rattle.il_drive.proofs.ExchangesAddressed.{seeks_record}
use Rattle.il_frames.specs.NamedFrames.{unl, rfc, lad, ddl}
use Rattle.loop_model.specs.Devices.{EachBecomes}
use Rattle.il_record.proofs.Heard.{others_then, others_deaf, others_deaf_to_any, told_on}
use Rattle.il_record.proofs.HeardLogs.{heard_in_part, heard_sent, no_data_sent, none_broke, none_by, none_whole}
use Rattle.il_record.specs.Listening.{Hears}
use Rattle.il_record.proofs.Listened.{hears_more, hears_no_part, hears_none, hears_part}
use Rattle.il_record.specs.Sends.{filled, SentSo, SentAll, SendBroke, Sought}

-- an error that is handed on
pub if_err : {T E : Type 0} (result : Result T E) (x : E) (P : E → Type 0) → IsErr result × IsErrAnd result (λ e. e ≡ x) → P x → IfErr result P
if_err (Err e) x P is so = subst P (sym is.1) so
if_err (Ok y) x P is so = tt

take_more : (bytes : List ℕ) (i : ℕ) → i < length bytes → take (suc i) bytes ≡ take i bytes ++ get_or bytes i 0 ∷ []
take_more [] i within = absurd (omega (arith, within))
take_more (b ∷ bytes) zero within = refl
take_more (b ∷ bytes) (suc i) within = ap (λ bytes. b ∷ bytes) (take_more bytes i (omega (arith, within)))

-- ---- bytes that zeros follow

pub length-filled : (n : ℕ) (bytes : List ℕ) → length (filled n bytes) ≡ n
length-filled n bytes = let a = length-append bytes (replicate n 0) in let b = length-replicate {A = ℕ} n 0 in length-take-le n (bytes ++ replicate n 0) (omega (arith, a, b))

pub filled_at : (n i : ℕ) (bytes : List ℕ) → i < n → get_or (filled n bytes) i 0 ≡ get_or bytes i 0
filled_at n i bytes within = get_or-take n (bytes ++ replicate n 0) i 0 within ∙ by bytes i
  where
    zeros : (n i : ℕ) → get_or {A = ℕ} (replicate n 0) i 0 ≡ 0
    zeros (suc n) (suc i) = zeros n i
    zeros _ _ = refl

    by : (bytes : List ℕ) (i : ℕ) → get_or (bytes ++ replicate n 0) i 0 ≡ get_or bytes i 0
    by [] i = zeros n i
    by (byte ∷ bytes) zero = refl
    by (byte ∷ bytes) (suc i) = by bytes i

-- as many as there are
pub filled_exact : (n : ℕ) (bytes : List ℕ) → length bytes ≡ n → filled n bytes ≡ bytes
filled_exact n bytes long = ap (λ n. take n (bytes ++ replicate n 0)) (sym long) ∙ take-append_seam bytes (replicate (length bytes) 0)

-- ---- byte after byte

-- nothing was sent yet
pub sent_nothing : {M : Type 0} (view : M → MediumView) (a : ℕ) (number : Option ℕ) (bytes : List ℕ) (r s : RingView M) → Made view (Send a number []) r s → Each (IsTold a) 1 (devices_of s) → AllStay (not (is_some number)) r s → SentSo view a number 0 bytes r s
sent_nothing view a number bytes r s made told stays =
    let heard = none_by a r s (none_whole view r s (entries_of 0 (Send a number [])) (no_data_sent a number) made.whole) in
    record {
      ds = [];
      sent = refl;
      many = refl;
      made = made;
      told = told;
      unheard = heard.0;
      by_log = heard.1;
      heard = hears_none a (not (is_some number)) 1 (devices_of r) (devices_of s) stays;
    }

-- one byte more
pub sent_more : {M : Type 0} (view : M → MediumView) (a : ℕ) (number : Option ℕ) (i byte : ℕ) (bytes : List ℕ) (r m s : RingView M) → IsIdle r → i < length bytes → byte ≡ get_or bytes i 0 → SentSo view a number i bytes r m → Sent view byte m s → SentSo view a number (i + 1) bytes r s
sent_more view a number i byte bytes r m s idle within is so sent =
    let d : Echo = sent_as byte sent.back in
    let up : i + 1 ≡ suc i = omega arith in
    let next : take i bytes ++ byte ∷ [] ≡ take (i + 1) bytes = ap (λ byte. take i bytes ++ byte ∷ []) is ∙ sym (take_more bytes i within) ∙ ap (λ k. take k bytes) (sym up) in
    let all : bytes_of (so.ds ++ d ∷ []) ≡ take (i + 1) bytes = map-append (λ (d : Echo). byte_of d.sent) so.ds (d ∷ []) ∙ ap (λ bytes. bytes ++ byte ∷ []) so.sent ∙ next in
    let made = send_more view a number so.ds byte r m s idle so.made sent in
    let others = others_then a 1 (devices_of r) (devices_of m) (devices_of s) so.unheard.unheard (others_deaf byte a 1 _ (devices_of m) (devices_of s) so.told sent.heard) in
    let heard = heard_sent view a r s number (so.ds ++ d ∷ []) (take (i + 1) bytes) idle all made others in
    record {
      ds = so.ds ++ d ∷ [];
      sent = all;
      many = length-append so.ds (d ∷ []) ∙ ap (λ k. k + 1) so.many;
      made = made;
      told = told_on byte a 1 _ (devices_of m) (devices_of s) so.told sent.heard;
      unheard = heard.0;
      by_log = heard.1;
      heard = subst (λ bytes. EachBecomes (Hears a bytes) 1 (devices_of r) (devices_of s)) next (hears_more a byte (take i bytes) 1 (devices_of r) (devices_of m) (devices_of s) so.heard so.told sent.heard);
    }

-- all were
pub sent_all : {M : Type 0} (view : M → MediumView) (a : ℕ) (number : Option ℕ) (i : ℕ) (bytes : List ℕ) (r s : RingView M) → i ≡ length bytes → SentSo view a number i bytes r s → SentAll view a number bytes r s
sent_all view a number i bytes r s all so = subst (λ i. SentSo view a number i bytes r s) all so

-- it broke off at this byte
pub send_broke : {M : Type 0} (view : M → MediumView) (a : ℕ) (number : Option ℕ) (i byte : ℕ) (bytes : List ℕ) (r m s : RingView M) → IsIdle r → i < length bytes → byte ≡ get_or bytes i 0 → SentSo view a number i bytes r m → NotSent view byte m s → SendBroke view a number bytes r s
send_broke view a number i byte bytes r m s idle within is so not_sent =
    let d : Echo = sent_as byte (framed class.Dab byte) in
    let long = length-append so.ds (d ∷ []) in
    let many = so.many in
    let up : length (so.ds ++ d ∷ []) ≡ suc i = omega (arith, long, many) in
    let heard = heard_in_part view a byte (take i bytes) r m s (so.unheard, so.by_log) not_sent (others_deaf_to_any a 1 not_sent.reached (devices_of m) (devices_of s) so.told not_sent.heard) in
    record {
      ds = so.ds ++ d ∷ [];
      sent =
          map-append (λ (d : Echo). byte_of d.sent) so.ds (d ∷ [])
          ∙ ap (λ bytes. bytes ++ byte ∷ []) so.sent
          ∙ ap (λ byte. take i bytes ++ byte ∷ []) is
          ∙ sym (take_more bytes i within)
          ∙ ap (λ k. take k bytes) (sym up);
      within = omega (arith, up, within);
      broken = send_breaks view a number so.ds byte r m s idle so.made not_sent;
      whole = i;
      whole_within = omega (arith, within);
      unheard = heard.0;
      by_log = heard.1;
      heard = hears_part a i bytes 1 not_sent.reached (devices_of r) (devices_of m) (devices_of s) so.heard so.told not_sent.heard;
    }

-- it broke off before the first byte
pub send_broke_first : {M : Type 0} (view : M → MediumView) (a : ℕ) (number : Option ℕ) (bytes : List ℕ) (r s : RingView M) → BrokenOff view (Send a number []) r s → AllStay (not (is_some number)) r s → SendBroke view a number bytes r s
send_broke_first view a number bytes r s broken stays =
    let heard = none_by a r s (none_broke view r s (entries_of 0 (Send a number [])) (no_data_sent a number) broken.broke) in
    record {
      ds = [];
      sent = refl;
      within = omega arith;
      broken = broken;
      whole = 0;
      whole_within = omega arith;
      unheard = heard.0;
      by_log = heard.1;
      heard = hears_no_part a (not (is_some number)) bytes 1 (devices_of r) (devices_of s) stays;
    }

-- the room that is left
pub sent_room : {M : Type 0} (view : M → MediumView) (a : ℕ) (number : Option ℕ) (i more : ℕ) (bytes : List ℕ) (r s : RingView M) → SentSo view a number i bytes r s → i + 6 + more ≤ spare_of r → more ≤ spare_of s
sent_room view a number i more bytes r s so room =
    let long = length-send 0 a number so.ds in
    let many = so.many in
    room_after view r s (entries_of 0 (Send a number so.ds)) more so.made.whole (omega (arith, long, many, room))

-- ---- a seek

-- the two frames of two bytes
two_frames : (ds : List Echo) (gs : List Frame) (high low : ℕ) → bytes_of ds ≡ high ∷ low ∷ [] → AllCome ds gs → (f : Frame) × (g : Frame) × (gs ≡ f ∷ g ∷ []) × (is_data f ≡ true) × (is_data g ≡ true) × (byte_of f ≡ high) × (byte_of g ≡ low)
two_frames (c ∷ d ∷ []) (f ∷ g ∷ []) high low bytes come =
    (f, g, refl, come.0.0, come.1.0.0, ap byte_of come.0.1 ∙ first_byte bytes, ap byte_of come.1.0.1 ∙ second_byte bytes)
  where
    first_byte : byte_of c.sent ∷ byte_of d.sent ∷ [] ≡ high ∷ low ∷ [] → byte_of c.sent ≡ high
    first_byte same = cc

    second_byte : byte_of c.sent ∷ byte_of d.sent ∷ [] ≡ high ∷ low ∷ [] → byte_of d.sent ≡ low
    second_byte same = cc
two_frames [] gs high low bytes come = cc
two_frames (c ∷ []) gs high low bytes come = cc
two_frames (c ∷ d ∷ e ∷ ds) gs high low bytes come = cc
two_frames (c ∷ d ∷ []) [] high low bytes come = absurd come
two_frames (c ∷ d ∷ []) (f ∷ []) high low bytes come = absurd come.1
two_frames (c ∷ d ∷ []) (f ∷ g ∷ h ∷ gs) high low bytes come = absurd come.1.1

-- a number in two bytes, high byte first
pub two_bytes : (n : ℕ) → n < 2 ^ 16 → (high : ℕ) × (low : ℕ) × (to_be_bytes w16 n ≡ high ∷ low ∷ []) × (256 * high + low ≡ n)
two_bytes n small =
    let high : n / 256 % 256 ≡ n / 256 = mod-eq_of_lt ((div-lt_iff_lt-mul (omega arith)).1 (omega (arith, small))) in
    (n / 256 % 256, n % 256, (search), ap (λ high. 256 * high + n % 256) high ∙ div-add-mod n 256)

pub sought : {M : Type 0} (view : M → MediumView) (d n : ℕ) (r s : RingView M) → d ≤ 30 → n < 2 ^ 16 → SentAll view d (Some 4) (filled 2 (to_be_bytes w16 n)) r s → Sought view d n r s
sought view d n r s low small so = λ at free within.
    let brings = send_brings view d (Some 4) so.ds r s so.made in
    let bytes = two_bytes n small in
    let exact : filled 2 (to_be_bytes w16 n) ≡ to_be_bytes w16 n = filled_exact 2 (to_be_bytes w16 n) (ap length bytes.2) in
    let all = so.sent ∙ take-length (filled 2 (to_be_bytes w16 n)) ∙ exact ∙ bytes.2 in
    let frames = two_frames so.ds brings.0 bytes.0 bytes.1 all brings.2 in
    let adds = so.made.whole.adds in
    let came : adds.came ≡ unl ∷ rfc ∷ lad d ∷ rfc ∷ ddl 4 ∷ rfc ∷ frames.0 ∷ frames.1 ∷ [] = brings.1 ∙ ap (λ gs. unl ∷ rfc ∷ lad d ∷ rfc ∷ ddl 4 ∷ rfc ∷ gs) frames.2 in
    let value : 256 * byte_of frames.0 + byte_of frames.1 ≡ n = ap₂ (λ high low. 256 * high + low) frames.5 frames.6 ∙ bytes.3 in
    seeks_record view d n frames.0 frames.1 adds.answers r.drive s.drive low free frames.3 frames.4 value within (subst (λ fs. Ran view r.drive fs adds.answers s.drive) came adds.drive)

-- a result that is handed on as it is
pub by_result : {T E A : Type 0} (result : Result T E) (P : T → Type 0) (Q : E → Type 0) → ((x : T) → P x → A) → ((e : E) → Q e → A) → IfOk result P → IfErr result Q → A
by_result (Ok x) P Q done broken ok err = done x ok
by_result (Err e) P Q done broken ok err = broken e err

pub ok_as : {T E : Type 0} (result : Result T E) (P Q : T → Type 0) → ((x : T) → P x → Q x) → IfOk result P → IfOk result Q
ok_as (Ok x) P Q rule so = rule x so
ok_as (Err e) P Q rule so = tt

pub err_as : {T E : Type 0} (result : Result T E) (P Q : E → Type 0) → ((e : E) → P e → Q e) → IfErr result P → IfErr result Q
err_as (Ok x) P Q rule so = tt
err_as (Err e) P Q rule so = rule e so

pub ok_both : {T E : Type 0} (result : Result T E) (P Q R : T → Type 0) → ((x : T) → P x → Q x → R x) → IfOk result P → IfOk result Q → IfOk result R
ok_both (Ok x) P Q R rule one two = rule x one two
ok_both (Err e) P Q R rule one two = tt

pub err_both : {T E : Type 0} (result : Result T E) (P Q R : E → Type 0) → ((e : E) → P e → Q e → R e) → IfErr result P → IfErr result Q → IfErr result R
err_both (Ok x) P Q R rule one two = tt
err_both (Err e) P Q R rule one two = rule e one two
