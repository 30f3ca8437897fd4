-- Which bytes a host name has, and that it does not begin with a point.
use Rattle.std.proofs.Common.{◌≡◌, ℕ, zero, suc, ◌/◌, ◌%◌, ◌<◌, ◌≤◌, ◌==◌, ◌&&◌, Bool, true, false, cond, List, [], ◌∷◌, ◌++◌, length, codes, refl, ◌∙◌, arith}
use Rattle.std.specs.Prelude.{◌≢◌, slice_index}
use Rattle.std.specs.List.{flat_map, list_all}
use Rattle.std.specs.Int.{w16, to_be_bytes}
use Rattle.std.specs.Str.{IsUtf8}
use Rattle.std.proofs.lemmas.Bool.Decides.{nat_tests}
use Rattle.std.proofs.lemmas.List.Elements.{All-weaker}
use Rattle.std.proofs.lemmas.List.Folds.{list_all-append}
use Rattle.std.proofs.lemmas.List.Sums.{AllPass-from_list_all}
use Rattle.std.proofs.lemmas.Str.{IsUtf8-from_ascii}
use Rattle.std.proofs.lemmas.Str.Ascii.{IsAscii-from_all}
use Rattle.hex.specs.Hex.{IsBytes, encode_with, encode_upper, upper_digits}
use Rattle.lif_model.specs.Printed.{is_plain, printed_byte, trimmed}
use Rattle.il_script.proofs.ReadBack.{one-byte, kept-bytes}
use Rattle.tape_names.specs.HostNames.{host_byte, host_first, host_text, host_tail, host_name_of, is_host_byte, IsHostName, AreParts}
use Rattle.tape_names.proofs.HostSizes.{two_bytes, name_length}

-- each byte is one that a host name may have
abbrev is_safe : List ℕ → Bool
is_safe text = list_all is_host_byte text

both : (a b : Bool) → a ≡ true → b ≡ true → a && b ≡ true
both a b is_a is_b = cc

joined_safe : (a b : List ℕ) → is_safe a ≡ true → is_safe b ≡ true → is_safe (a ++ b) ≡ true
joined_safe a b is_a is_b = list_all-append is_host_byte a b ∙ both (is_safe a) (is_safe b) is_a is_b

-- ---- each byte

digit_safe : (d : ℕ) → d < 16 → is_host_byte (slice_index upper_digits d) ≡ true
digit_safe d few = AllPass-from_list_all is_host_byte upper_digits refl d 0 few

digits_safe : (bytes : List ℕ) → IsBytes bytes → is_safe (encode_upper bytes) ≡ true
unfolding encode_with
digits_safe [] h = refl
digits_safe (b ∷ rest) h =
    let fits : b < 256 = h 0 in
    both _ _ (digit_safe (b / 16) (omega arith)) (both _ _ (digit_safe (b % 16) (omega arith)) (digits_safe rest (λ i. h (suc i))))

plain_safe : (b : ℕ) → is_plain b ≡ true → (b == 47) ≡ false → is_safe (b ∷ []) ≡ true
plain_safe b plain other = both (is_host_byte b) true (grind (arith, nat_tests)) refl

printed_safe : (b : ℕ) (p : Bool) → is_plain b ≡ p → (b == 47) ≡ false → b < 256 → is_safe (cond p (b ∷ []) (37 ∷ encode_upper (b ∷ []))) ≡ true
printed_safe b true plain other fits = plain_safe b plain other
printed_safe b false plain other fits = digits_safe (b ∷ []) (one-byte b fits)

byte_safe : (b : ℕ) (s : Bool) → (b == 47) ≡ s → b < 256 → is_safe (cond s (codes "%2F") (printed_byte b)) ≡ true
byte_safe b true is fits = refl
byte_safe b false is fits = printed_safe b (is_plain b) refl is fits

first_safe : (b : ℕ) (s : Bool) → b < 256 → is_safe (cond s (codes "%2E") (host_byte b)) ≡ true
first_safe b true fits = refl
first_safe b false fits = byte_safe b (b == 47) refl fits

rest_safe : (rest : List ℕ) → IsBytes rest → is_safe (flat_map host_byte rest) ≡ true
rest_safe [] h = refl
rest_safe (b ∷ rest) h = joined_safe (host_byte b) (flat_map host_byte rest) (byte_safe b (b == 47) refl (h zero)) (rest_safe rest (λ i. h (suc i)))

text_safe : (kept : List ℕ) → IsBytes kept → is_safe (host_text kept) ≡ true
text_safe [] h = refl
text_safe (b ∷ kept) h = joined_safe (host_first b) (flat_map host_byte kept) (first_safe b (b == 46) (h zero)) (rest_safe kept (λ i. h (suc i)))

tail_safe : (kind : ℕ) (field : List ℕ) → IsBytes field → is_safe (host_tail kind field) ≡ true
unfolding host_tail
tail_safe kind field h =
    let two = encode_upper (to_be_bytes w16 kind) in
    let four = encode_upper field in
    joined_safe two (46 ∷ four) (digits_safe (to_be_bytes w16 kind) (two_bytes kind)) (digits_safe field h)

-- ---- the first byte

no_point : (b : ℕ) → (b == 46) ≡ false → b ≢ 46
no_point b h = grind (arith, nat_tests)

front : (kept tail : List ℕ) → slice_index (host_text kept ++ tail) 0 ≢ 46
front [] tail = λ e. omega arith
front (b ∷ kept) tail = escaped (b == 46) refl
  where
    more : List ℕ
    more = flat_map host_byte kept

    printed : (p : Bool) → (b == 46) ≡ false → slice_index ((cond p (b ∷ []) (37 ∷ encode_upper (b ∷ [])) ++ more) ++ tail) 0 ≢ 46
    printed true other = no_point b other
    printed false other = λ e. omega arith

    slash : (t : Bool) → (b == 46) ≡ false → slice_index ((cond t (codes "%2F") (printed_byte b) ++ more) ++ tail) 0 ≢ 46
    slash true other = λ e. omega arith
    slash false other = printed (is_plain b) other

    escaped : (s : Bool) → (b == 46) ≡ s → slice_index ((cond s (codes "%2E") (host_byte b) ++ more) ++ tail) 0 ≢ 46
    escaped true is = λ e. omega arith
    escaped false is = slash (b == 47) is

-- ---- the whole

-- the bytes of a host name, how many there are, and what the first is not
pub host_name_safe : (name : List ℕ) (kind : ℕ) (field : List ℕ) → AreParts name kind field → IsHostName (host_name_of name kind field)
unfolding host_name_of
host_name_safe name kind field are =
    let text = host_text (trimmed name) in
    let tail = host_tail kind field in
    let few : length name ≤ 10 = omega arith in
    record {
      least = (name_length name kind field few are.four).0;
      most = (name_length name kind field few are.four).1;
      bytes = AllPass-from_list_all is_host_byte (text ++ tail) (joined_safe text tail (text_safe (trimmed name) (kept-bytes name are.bytes)) (tail_safe kind field are.digits));
      first = front (trimmed name) tail;
    }

below_128 : (b : ℕ) → is_host_byte b ≡ true → b < 128
below_128 b h = grind (arith, nat_tests)

-- a host name is UTF-8
pub host_name_utf8 : (text : List ℕ) → IsHostName text → IsUtf8 text
host_name_utf8 text is = IsUtf8-from_ascii text (IsAscii-from_all text (All-weaker (λ b. is_host_byte b ≡ true) (λ b. b < 128) below_128 text is.bytes))
