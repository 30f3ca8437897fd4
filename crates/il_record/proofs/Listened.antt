-- What devices heard of bytes that were sent, byte after byte.
use Rattle.std.proofs.Common.{◌≡◌, ◌∙◌, ◌+◌, ◌++◌, ◌==◌, ℕ, zero, suc, Bool, true, false, List, [], ◌∷◌, length, take, refl, sym, ap, subst, arith, append-nil}
use Rattle.std.specs.Prelude.{if◌then◌else◌, MatchBool}
use Rattle.il_device.specs.State.{DeviceState, risen, risen_by}
use Rattle.il_device.specs.Takes.{kept, kept_all}
use Rattle.loop_model.specs.Devices.{EachBecomes}
use Rattle.loop_model.specs.Listening.{HearsAll, HearsInPart}
use Rattle.il_ring.specs.Lists.{Each, First}
use Rattle.il_ring.specs.Outcomes.{HearsNothing, HearsByte, HearsAny}
use Rattle.il_control.specs.Calls.{IsTold, Stays}
use Rattle.il_control.proofs.Calls.{hears_then}
use Rattle.il_record.specs.Listening.{Hears, HearsPart}
use Rattle.il_record.proofs.Heard.{deaf}

-- ---- one device

heard_more : (room : ℕ) (heard bytes : List ℕ) (byte : ℕ) → kept_all room heard (bytes ++ byte ∷ []) ≡ kept room (kept_all room heard bytes) byte
heard_more room heard [] byte = refl
heard_more room heard (b ∷ bytes) byte = heard_more room (kept room heard b) bytes byte

counted_more : (count : ℕ) (bytes : List ℕ) (byte : ℕ) → risen_by (length (bytes ++ byte ∷ [])) count ≡ risen (risen_by (length bytes) count)
counted_more count [] byte = refl
counted_more count (b ∷ bytes) byte = counted_more (risen count) bytes byte

told : {A : Type 0} (b : Bool) (x y : A) → b ≡ true → (if b then x else y) ≡ x
told true x y is = refl
told false x y is = cc

none_more : (d e : DeviceState) → HearsNothing d e → HearsAll [] d e
none_more d e nothing = record { heard = nothing.heard; heard_count = nothing.heard_count; room = nothing.room; accessory = nothing.accessory }

bytes_more : (byte : ℕ) (bytes : List ℕ) (c d e : DeviceState) → d.roles.listens ≡ true → HearsAll bytes c d → HearsByte byte d e → HearsAll (bytes ++ byte ∷ []) c e
bytes_more byte bytes c d e listens first more = record {
  heard =
      more.heard ∙ told d.roles.listens _ _ listens ∙ ap (λ room. kept room d.heard byte) first.room ∙ ap (λ heard. kept c.room heard byte) first.heard
      ∙ sym (heard_more c.room c.heard bytes byte);
  heard_count = more.heard_count ∙ told d.roles.listens _ _ listens ∙ ap risen first.heard_count ∙ sym (counted_more c.heard_count bytes byte);
  room = more.room ∙ first.room;
  accessory = more.accessory ∙ first.accessory;
}

one_more : (byte : ℕ) (bytes : List ℕ) (here : Bool) (c d e : DeviceState) → d.roles.listens ≡ here → MatchBool here (HearsAll bytes c d) (HearsNothing c d) → HearsByte byte d e → MatchBool here (HearsAll (bytes ++ byte ∷ []) c e) (HearsNothing c e)
one_more byte bytes true c d e listens first more = bytes_more byte bytes c d e listens first more
one_more byte bytes false c d e listens first more = hears_then c d e first (deaf byte d e listens more)

-- the first i, and then nothing more, or one byte
part_same : (i : ℕ) (bytes : List ℕ) (here : Bool) (c d : DeviceState) → MatchBool here (HearsAll (take i bytes) c d) (HearsNothing c d) → MatchBool here (HearsInPart i bytes c d) (HearsNothing c d)
part_same i bytes true c d first = record { more = []; few = omega arith; heard = subst (λ bytes. HearsAll bytes c d) (sym (append-nil (take i bytes))) first }
part_same i bytes false c d first = first

part_more : (byte i : ℕ) (bytes : List ℕ) (here : Bool) (c d e : DeviceState) → d.roles.listens ≡ here → MatchBool here (HearsAll (take i bytes) c d) (HearsNothing c d) → HearsByte byte d e → MatchBool here (HearsInPart i bytes c e) (HearsNothing c e)
part_more byte i bytes true c d e listens first more = record { more = byte ∷ []; few = omega arith; heard = bytes_more byte (take i bytes) c d e listens first more }
part_more byte i bytes false c d e listens first more = hears_then c d e first (deaf byte d e listens more)

nothing_whole : (here : Bool) (d e : DeviceState) → HearsNothing d e → MatchBool here (HearsAll [] d e) (HearsNothing d e)
nothing_whole true d e nothing = none_more d e nothing
nothing_whole false d e nothing = nothing

pub nothing_in_part : (bytes : List ℕ) (here : Bool) (d e : DeviceState) → HearsNothing d e → MatchBool here (HearsInPart 0 bytes d e) (HearsNothing d e)
nothing_in_part bytes true d e nothing = record { more = []; few = omega arith; heard = none_more d e nothing }
nothing_in_part bytes false d e nothing = nothing

-- ---- all devices

pub hears_none : (a : ℕ) (still : Bool) (k : ℕ) (ds es : List DeviceState) → First (Stays still) (length ds) ds es → EachBecomes (Hears a []) k ds es
hears_none a still k [] [] stays = tt
hears_none a still k (d ∷ ds) (e ∷ es) stays = ((stays.0.place, nothing_whole (k == a) d e stays.0.nothing), hears_none a still (k + 1) ds es stays.1)
hears_none a still k _ _ stays = absurd stays

pub hears_no_part : (a : ℕ) (still : Bool) (bytes : List ℕ) (k : ℕ) (ds es : List DeviceState) → First (Stays still) (length ds) ds es → EachBecomes (HearsPart a 0 bytes) k ds es
hears_no_part a still bytes k [] [] stays = tt
hears_no_part a still bytes k (d ∷ ds) (e ∷ es) stays = ((stays.0.place, nothing_in_part bytes (k == a) d e stays.0.nothing), hears_no_part a still bytes (k + 1) ds es stays.1)
hears_no_part a still bytes k _ _ stays = absurd stays

pub hears_more : (a byte : ℕ) (bytes : List ℕ) (k : ℕ) (cs ds es : List DeviceState) → EachBecomes (Hears a bytes) k cs ds → Each (IsTold a) k ds → First (HearsByte byte) (length ds) ds es → EachBecomes (Hears a (bytes ++ byte ∷ [])) k cs es
hears_more a byte bytes k [] [] [] first told more = tt
hears_more a byte bytes k (c ∷ cs) (d ∷ ds) (e ∷ es) first told more =
    ((more.0.assignment ∙ first.0.0, one_more byte bytes (k == a) c d e told.0 first.0.1 more.0), hears_more a byte bytes (k + 1) cs ds es first.1 told.1 more.1)
hears_more a byte bytes k [] [] (e ∷ es) first told more = absurd more
hears_more a byte bytes k [] (d ∷ ds) es first told more = absurd first
hears_more a byte bytes k (c ∷ cs) [] es first told more = absurd first
hears_more a byte bytes k (c ∷ cs) (d ∷ ds) [] first told more = absurd more

pub hears_part : (a i : ℕ) (bytes : List ℕ) (k j : ℕ) (cs ds es : List DeviceState) → EachBecomes (Hears a (take i bytes)) k cs ds → Each (IsTold a) k ds → First HearsAny j ds es → EachBecomes (HearsPart a i bytes) k cs es
hears_part a i bytes k j [] [] [] first told more = tt
hears_part a i bytes k zero (c ∷ cs) (d ∷ ds) (e ∷ es) first told more =
    (subst (HearsPart a i bytes k c) (sym more.0) (first.0.0, part_same i bytes (k == a) c d first.0.1), hears_part a i bytes (k + 1) 0 cs ds es first.1 told.1 more.1)
hears_part a i bytes k (suc j) (c ∷ cs) (d ∷ ds) (e ∷ es) first told more =
    ((more.0.1.assignment ∙ first.0.0, part_more more.0.0 i bytes (k == a) c d e told.0 first.0.1 more.0.1), hears_part a i bytes (k + 1) j cs ds es first.1 told.1 more.1)
hears_part a i bytes k j [] [] (e ∷ es) first told more = absurd more
hears_part a i bytes k j [] (d ∷ ds) es first told more = absurd first
hears_part a i bytes k j (c ∷ cs) [] es first told more = absurd first
hears_part a i bytes k j (c ∷ cs) (d ∷ ds) [] first told more = absurd more
