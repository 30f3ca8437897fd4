-- The host name of an entry states that entry.
use Rattle.std.proofs.Common.{◌≡◌, ℕ, zero, suc, ◌-◌, ◌*◌, ◌^◌, ◌≤◌, ◌<◌, ◌==◌, Bool, true, false, cond, List, [], ◌∷◌, ◌++◌, Option, Some, None, length, take, drop, replicate, codes, refl, sym, ap, ap₂, ◌∙◌, arith, length-append}
use Rattle.std.specs.Prelude.{nat_lt}
use Rattle.std.specs.Int.{w16, to_be_bytes}
use Rattle.std.specs.List.{flat_map}
use Rattle.std.specs.Option.{option_and_then, option_map}
use Rattle.std.proofs.Math.Seq.{take-append_seam, drop-append_seam}
use Rattle.std.proofs.lemmas.Bool.Decides.{nat_tests}
use Rattle.std.proofs.lemmas.Nat.{from_be_bytes-to_be_bytes_2}
use Rattle.hex.specs.Hex.{IsBytes, decode_pairs, encode_with, encode_upper, upper_digits}
use Rattle.hex.proofs.HexLemmas.{decode_of-encode_upper, decode_sized-twice, length-encode_with}
use Rattle.lif_model.specs.Printed.{is_plain, printed_byte, trimmed}
use Rattle.lif_dir.specs.Entries.{name_bytes}
use Rattle.lif_dir.specs.Names.{name_of_bytes}
use Rattle.lif_dir.specs.declared.entries.Name.{Name}
use Rattle.il_script.specs.Digits.{decoded, hex_bytes}
use Rattle.il_script.specs.Spelling.{spelt}
use Rattle.il_script.proofs.ReadBack.{escaped-read, byte-read, filled-up, kept-bytes, named}
use Rattle.tape_names.specs.HostNames.{host_byte, host_first, host_text, host_tail, host_name_of, entry_of_three, entry_of_parts, entry_of_host_name, AreParts}
use Rattle.tape_names.specs.declared.host_names.HostEntry.{HostEntry}
use Rattle.tape_names.proofs.HostSizes.{text_some, tail_length, two_bytes}

is_equal : (x y : ℕ) → (x == y) ≡ true → x ≡ y
is_equal x y h = grind (arith, nat_tests)

-- ---- the name

escaped_as : (b x : ℕ) (text rest : List ℕ) → b ≡ x → spelt text ≡ Some rest → x < 256 → spelt ((37 ∷ encode_upper (x ∷ [])) ++ text) ≡ Some (b ∷ rest)
escaped_as b x text rest is e fits = escaped-read x text rest fits e ∙ ap (λ (y : ℕ). Some (y ∷ rest)) (sym is)

byte_read : (b : ℕ) (text rest : List ℕ) → b < 256 → spelt text ≡ Some rest → spelt (host_byte b ++ text) ≡ Some (b ∷ rest)
unfolding encode_with
byte_read b text rest fits e = go (b == 47) refl
  where
    go : (s : Bool) → (b == 47) ≡ s → spelt (cond s (codes "%2F") (printed_byte b) ++ text) ≡ Some (b ∷ rest)
    go true is = escaped_as b 47 text rest (is_equal b 47 is) e (omega arith)
    go false is = byte-read b (is_plain b) text rest refl fits e

first_read : (b : ℕ) (text rest : List ℕ) → b < 256 → spelt text ≡ Some rest → spelt (host_first b ++ text) ≡ Some (b ∷ rest)
unfolding encode_with
first_read b text rest fits e = go (b == 46) refl
  where
    go : (s : Bool) → (b == 46) ≡ s → spelt (cond s (codes "%2E") (host_byte b) ++ text) ≡ Some (b ∷ rest)
    go true is = escaped_as b 46 text rest (is_equal b 46 is) e (omega arith)
    go false is = byte_read b text rest fits e

rest_read : (rest : List ℕ) → IsBytes rest → spelt (flat_map host_byte rest) ≡ Some rest
rest_read [] h = refl
rest_read (b ∷ rest) h = byte_read b (flat_map host_byte rest) rest (h zero) (rest_read rest (λ i. h (suc i)))

one_space : spelt (codes "%20") ≡ Some (32 ∷ [])
unfolding decode_pairs
one_space = refl

text_read : (kept : List ℕ) (name : Name) → IsBytes kept → length (name_bytes name) ≡ 10 → kept ++ replicate (10 - length kept) 32 ≡ name_bytes name
    → option_and_then name_of_bytes (spelt (host_text kept)) ≡ Some name
text_read [] name h size is = ap (option_and_then name_of_bytes) one_space ∙ named (32 ∷ []) name (omega arith) (omega arith) is
text_read (b ∷ kept) name h size is =
    let few : length (b ∷ kept) ≤ 10 = omega (arith, size, ap length is, length-append (b ∷ kept) (replicate (10 - length (b ∷ kept)) 32)) in
    ap (option_and_then name_of_bytes) (first_read b (flat_map host_byte kept) kept (h zero) (rest_read kept (λ i. h (suc i))))
    ∙ named (b ∷ kept) name (omega arith) few is

name_read : (name : Name) → length (name_bytes name) ≡ 10 → IsBytes (name_bytes name) → option_and_then name_of_bytes (spelt (host_text (trimmed (name_bytes name)))) ≡ Some name
name_read name size h =
    let text = name_bytes name in
    text_read (trimmed text) name (kept-bytes text h) size (ap (λ n. trimmed text ++ replicate (n - length (trimmed text)) 32) (sym size) ∙ filled-up text)

-- ---- the type and the field

digits_read : (n : ℕ) (bytes : List ℕ) → length bytes ≡ n → IsBytes bytes → hex_bytes n (encode_upper bytes) ≡ Some bytes
digits_read n bytes size h =
    let twice : length (encode_upper bytes) ≡ 2 * n = omega (arith, size, length-encode_with upper_digits bytes) in
    ap decoded (decode_sized-twice (encode_upper bytes) n twice ∙ decode_of-encode_upper bytes h)

three_read : (name : Option Name) (two four : Option (List ℕ)) (n : Name) (kind : ℕ) (field : List ℕ) → name ≡ Some n → two ≡ Some (to_be_bytes w16 kind) → four ≡ Some field → kind < 2 ^ 16
    → entry_of_three name two four ≡ Some (record { name = n; kind = kind; field = field })
three_read name two four n kind field is_n is_two is_four few =
    (λ i. entry_of_three (is_n i) (is_two i) (is_four i))
    ∙ ap (λ (k : ℕ). let e : HostEntry = record { name = n; kind = k; field = field } in Some e) (from_be_bytes-to_be_bytes_2 kind few)

parts_read : (text : List ℕ) (name : Name) (kind : ℕ) (field : List ℕ) → option_and_then name_of_bytes (spelt text) ≡ Some name → kind < 2 ^ 16 → length field ≡ 4 → IsBytes field
    → entry_of_parts text (host_tail kind field) ≡ Some (record { name = name; kind = kind; field = field })
unfolding host_tail encode_with
parts_read text name kind field is few size h =
    three_read (option_and_then name_of_bytes (spelt text)) (hex_bytes 2 (encode_upper (to_be_bytes w16 kind))) (hex_bytes 4 (encode_upper field)) name kind field
    is (digits_read 2 (to_be_bytes w16 kind) refl (two_bytes kind)) (digits_read 4 field size h) few

-- ---- the whole

is_long : (n least : ℕ) → least ≤ n → nat_lt n least ≡ false
is_long n least h = grind (arith, nat_tests)

whole : (text tail : List ℕ) → length tail ≡ 14 → 1 ≤ length text → entry_of_host_name (text ++ tail) ≡ entry_of_parts text tail
whole text tail size some =
    let long : 15 ≤ length (text ++ tail) = omega (arith, length-append text tail) in
    let end : length (text ++ tail) - 14 ≡ length text = omega (arith, length-append text tail) in
    ap (λ (b : Bool). cond b None (entry_of_parts (take (length (text ++ tail) - 14) (text ++ tail)) (drop (length (text ++ tail) - 14) (text ++ tail)))) (is_long (length (text ++ tail)) 15 long)
    ∙ ap (λ (k : ℕ). entry_of_parts (take k (text ++ tail)) (drop k (text ++ tail))) end
    ∙ ap₂ entry_of_parts (take-append_seam text tail) (drop-append_seam text tail)

-- the host name of a name, a type and a field states them
pub host_name_read : (name : Name) (kind : ℕ) (field : List ℕ) → AreParts (name_bytes name) kind field
    → entry_of_host_name (host_name_of (name_bytes name) kind field) ≡ Some (record { name = name; kind = kind; field = field })
unfolding host_name_of
host_name_read name kind field are =
    let text = host_text (trimmed (name_bytes name)) in
    whole text (host_tail kind field) (tail_length kind field are.four) (text_some (trimmed (name_bytes name)))
    ∙ parts_read text name kind field (name_read name are.ten are.bytes) are.fits are.four are.digits

-- so two files with the same host name have the same name, type and field
pub host_names_differ : (name : List ℕ) (kind : ℕ) (field : List ℕ) (name' : List ℕ) (kind' : ℕ) (field' : List ℕ) → AreParts name kind field → AreParts name' kind' field'
    → host_name_of name kind field ≡ host_name_of name' kind' field' → (name ≡ name') × (kind ≡ kind') × (field ≡ field')
host_names_differ name kind field name' kind' field' are are' same =
    let e : HostEntry = record { name = record { bytes = name }; kind = kind; field = field } in
    let e' : HostEntry = record { name = record { bytes = name' }; kind = kind'; field = field' } in
    let stated : Some e ≡ Some e' = sym (host_name_read e.name kind field are) ∙ ap entry_of_host_name same ∙ host_name_read e'.name kind' field' are' in
    let entry : e ≡ e' = cc in
    (ap (λ (x : HostEntry). name_bytes x.name) entry, ap (λ (x : HostEntry). x.kind) entry, ap (λ (x : HostEntry). x.field) entry)

-- ---- a name that is spelt

pub none_spelt : {X : Type 0} (rule : List ℕ → Option X) (spelling : Option (List ℕ)) → None ≡ option_map rule spelling → None ≡ option_and_then rule spelling
none_spelt rule None h = refl
none_spelt rule (Some bytes) h = cc

pub some_spelt : {X : Type 0} (rule : List ℕ → Option X) (spelling : Option (List ℕ)) (named : Option X) → Some named ≡ option_map rule spelling → named ≡ option_and_then rule spelling
some_spelt rule None named h = cc
some_spelt rule (Some bytes) named h = cc
