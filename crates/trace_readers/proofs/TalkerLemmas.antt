-- Talkers by their places, and a message on its way along the devices.
use Rattle.std.proofs.Common.{◌≡◌, ◌<◌, ◌∙◌, ◌+◌, ◌&&◌, ◌==◌, ◌++◌, ℕ, suc, zero, Bool, true, false, not, List, [], ◌∷◌, Option, Some, None, length, take, drop, get_or, set, nat_le, append_assoc, refl, sym, ap, arith}
use Rattle.std.specs.Prelude.{if◌then◌else◌, replicate}
use Rattle.std.specs.List.{position, position_from, count_by}
use Rattle.std.proofs.lemmas.List.{take_more_set, take_more, drop-set-lt}
use Rattle.std.proofs.lemmas.List.Recursion.{is_count_by}
use Rattle.std.proofs.lemmas.Iterator.Adapters.{position_from-zero}
use Rattle.std.proofs.lemmas.Bool.Decides.{nat_tests}
use Rattle.std.proofs.Math.Seq.{drop-cons, take-append_seam}
use Rattle.il_frames.specs.declared.message.Message.{Message}
use Rattle.il_frames.specs.declared.entry.Entry.{Entry}
use Rattle.il_frames.specs.declared.entry.Outcome.{Outcome}
use Rattle.il_device.specs.declared.roles.Roles.{Roles}
use Rattle.il_device.specs.Roles.{no_roles}
use Rattle.loop_model.specs.Reach.{is_reached}
use Rattle.loop_model.specs.Roles.{all_without_roles, roles_by, passed_on, roles_along, roles_after_entry, roles_after, is_in_turn, has_one_talker, talkers_from, talkers, is_at_most_one, is_end_of_talk, may_speak}
use Rattle.trace_readers.specs.Talkers.{Talk, IsTalkAfter, is_talker}
use Rattle.loop_model.proofs.RoleLaws.{roles_after-append}

-- ---- talkers

-- the number of talkers does not hang on which party is the first
counted_or : (b : Bool) (party other : ℕ) (ps qs : List ℕ) → length ps ≡ length qs →
    length ((if b then party ∷ [] else []) ++ ps) ≡ length ((if b then other ∷ [] else []) ++ qs)
counted_or true party other ps qs e = ap suc e
counted_or false party other ps qs e = e

counted_alike : (party other : ℕ) (rs : List Roles) → length (talkers_from party rs) ≡ length (talkers_from other rs)
counted_alike party other [] = refl
counted_alike party other (r ∷ rs) = counted_or r.talks party other _ _ (counted_alike (suc party) (suc other) rs)

counted_more : (b : Bool) (party : ℕ) (ps : List ℕ) (n : ℕ) → length ps ≡ n →
    length ((if b then party ∷ [] else []) ++ ps) ≡ (if b then 1 + n else n)
counted_more true party ps n e = omega (arith, e)
counted_more false party ps n e = e

length-talkers : (rs : List Roles) → length (talkers rs) ≡ count_by is_talker rs
length-talkers = is_count_by (λ rs. length (talkers rs)) is_talker refl
    (λ r rs. counted_more r.talks 1 (talkers_from 2 rs) (length (talkers rs)) (counted_alike 2 1 rs))

at_most_one_length : (ps : List ℕ) → nat_le (length ps) 1 ≡ is_at_most_one ps
at_most_one_length [] = refl
at_most_one_length (p ∷ []) = refl
at_most_one_length (p ∷ q ∷ ps) = grind (arith, nat_tests)

pub at_most_one_count : (rs : List Roles) → nat_le (count_by is_talker rs) 1 ≡ is_at_most_one (talkers rs)
at_most_one_count rs = ap (λ (n : ℕ). nat_le n 1) (sym (length-talkers rs)) ∙ at_most_one_length (talkers rs)

-- who may speak, by the place of the first talker
abbrev pub may_speak_at : Option ℕ → ℕ → Message → Bool
may_speak_at None party m = (party == 0) && not (is_end_of_talk m)
may_speak_at (Some place) party m = party == place + 1

first_or : (b : Bool) (place party : ℕ) (m : Message) (o : Option ℕ) (ps : List ℕ) →
    may_speak_at o party m ≡ may_speak ps party m →
    may_speak_at (if b then Some place else o) party m ≡ may_speak ((if b then suc place ∷ [] else []) ++ ps) party m
first_or true place party m o ps e = let one : place + 1 ≡ suc place = omega arith in rw one refl
first_or false place party m o ps e = e

may_speak_from : (place : ℕ) (rs : List Roles) (party : ℕ) (m : Message) →
    may_speak_at (position_from is_talker place rs) party m ≡ may_speak (talkers_from (suc place) rs) party m
may_speak_from place [] party m = refl
may_speak_from place (r ∷ rs) party m =
    let one : place + 1 ≡ suc place = omega arith in
    first_or r.talks place party m (position_from is_talker (place + 1) rs) (talkers_from (suc (suc place)) rs)
    (rw one (may_speak_from (suc place) rs party m))

pub may_speak_first : (rs : List Roles) (party : ℕ) (m : Message) →
    may_speak_at (position is_talker rs) party m ≡ may_speak (talkers rs) party m
may_speak_first rs party m =
    ap (λ (o : Option ℕ). may_speak_at o party m) (position_from-zero is_talker rs) ∙ may_speak_from 0 rs party m

pub none_at_host : (party : ℕ) (m : Message) (b : Bool) → party ≡ 0 → b ≡ is_end_of_talk m →
    not b ≡ may_speak_at None party m
none_at_host party m b host same = rw (host, same) refl

pub none_elsewhere : (party : ℕ) (m : Message) → (party ≡ 0 → ⊥) → (party == 0) ≡ may_speak_at None party m
none_elsewhere party m other = let off : (party == 0) ≡ false = grind (arith, nat_tests) in rw off refl

-- ---- no roles

silent : (party k : ℕ) → talkers_from party (replicate k no_roles) ≡ []
silent party zero = refl
silent party (suc k) = silent (suc party) k

-- ---- a message on its way

along_more : (o : Outcome) (place : ℕ) (m : Message) (rs : List Roles) (r : Roles) → place < length rs →
    roles_along 0 o (suc place) m (drop place rs)
    ≡ (if is_reached 0 o (suc place) then roles_by m (get_or rs place r) else get_or rs place r)
    ∷ roles_along 0 o (suc (suc place)) (if is_reached 0 o (suc place) then passed_on m (get_or rs place r) else m)
    (drop (suc place) rs)
along_more o place m rs r below = rw (drop-cons rs place r) refl

-- the device at this place has got these roles, and the message goes on from it
along_next : (o : Outcome) (place : ℕ) (m n : Message) (rs ss all : List Roles) (r y : Roles) → place < length rs →
    take place rs ++ roles_along 0 o (suc place) m (drop place rs) ≡ all →
    y ≡ (if is_reached 0 o (suc place) then roles_by m (get_or rs place r) else get_or rs place r) →
    n ≡ (if is_reached 0 o (suc place) then passed_on m (get_or rs place r) else m) →
    take (place + 1) ss ≡ take place rs ++ y ∷ [] → drop (place + 1) ss ≡ drop (place + 1) rs →
    take (place + 1) ss ++ roles_along 0 o (suc (place + 1)) n (drop (place + 1) ss) ≡ all
along_next o place m n rs ss all r y below before here on front back =
    let one : place + 1 ≡ suc place = omega arith in
    rw (front, back, append_assoc, one, here, on)
    (ap (λ (xs : List Roles). take place rs ++ xs) (sym (along_more o place m rs r below)) ∙ before)

if_true : {A : Type 0} (b : Bool) (x y : A) → b ≡ true → x ≡ (if b then x else y)
if_true true x y e = refl
if_true false x y e = cc

if_false : {A : Type 0} (b : Bool) (x y : A) → b ≡ false → y ≡ (if b then x else y)
if_false true x y e = cc
if_false false x y e = refl

pub along_reached : (o : Outcome) (place : ℕ) (m n : Message) (rs all : List Roles) (r y : Roles) → place < length rs →
    take place rs ++ roles_along 0 o (suc place) m (drop place rs) ≡ all → is_reached 0 o (suc place) ≡ true →
    y ≡ roles_by m (get_or rs place r) → n ≡ passed_on m (get_or rs place r) →
    take (place + 1) (set rs place y) ++ roles_along 0 o (suc (place + 1)) n (drop (place + 1) (set rs place y)) ≡ all
along_reached o place m n rs all r y below before reached here on =
    along_next o place m n rs (set rs place y) all r y below before
    (here ∙ if_true (is_reached 0 o (suc place)) _ _ reached) (on ∙ if_true (is_reached 0 o (suc place)) _ _ reached)
    (take_more_set rs place y below) (drop-set-lt (place + 1) rs place y (omega arith))

pub along_kept : (o : Outcome) (place : ℕ) (m : Message) (rs all : List Roles) (r : Roles) → place < length rs →
    take place rs ++ roles_along 0 o (suc place) m (drop place rs) ≡ all → is_reached 0 o (suc place) ≡ false →
    take (place + 1) rs ++ roles_along 0 o (suc (place + 1)) m (drop (place + 1) rs) ≡ all
along_kept o place m rs all r below before reached =
    along_next o place m m rs rs all r (get_or rs place r) below before
    (if_false (is_reached 0 o (suc place)) _ _ reached) (if_false (is_reached 0 o (suc place)) _ _ reached)
    (take_more rs place r below) refl

-- ---- entries

-- what is known after no entry
pub known_first : (k : ℕ) (talk : Talk) → talk.roles ≡ replicate k no_roles → talk.had_one ≡ true →
    IsTalkAfter k [] talk
known_first k talk roles one = record {
  roles = roles;
  had_one = one ∙ sym (ap is_at_most_one (silent 1 k));
}

and_inner : (a b c d : Bool) → (a && (b && (c && d))) ≡ ((a && (b && c)) && d)
and_inner true true c d = refl
and_inner true false c d = refl
and_inner false b c d = refl

-- one talker of a log with one entry more
one_more : (rs : List Roles) (log : List Entry) (e : Entry) →
    has_one_talker rs (log ++ e ∷ [])
    ≡ (has_one_talker rs log && (is_in_turn (talkers (roles_after rs log)) e && is_at_most_one (talkers
    (roles_after_entry (roles_after rs log) e))))
one_more rs [] e = refl
one_more rs (x ∷ log) e =
    ap (λ (b : Bool). is_at_most_one (talkers rs) && (is_in_turn (talkers rs) x && b)) (one_more
    (roles_after_entry rs x) log e)
    ∙ and_inner (is_at_most_one (talkers rs)) (is_in_turn (talkers rs) x) (has_one_talker
    (roles_after_entry rs x) log) _

pub known_more : (k : ℕ) (log : List Entry) (e : Entry) (before after : Talk) → IsTalkAfter k log before →
    after.roles ≡ roles_after_entry before.roles e →
    after.had_one ≡ (before.had_one && (is_in_turn (talkers before.roles) e && is_at_most_one (talkers after.roles))) →
    IsTalkAfter k (log ++ e ∷ []) after
known_more k log e before after known roles one =
    let now : after.roles ≡ roles_after_entry (roles_after (all_without_roles k) log) e =
    roles ∙ ap (λ (rs : List Roles). roles_after_entry rs e) known.roles in
    record {
      roles = now ∙ sym (roles_after-append (all_without_roles k) log (e ∷ []));
      had_one =
          one
          ∙ ap (λ (b : Bool). b && (is_in_turn (talkers before.roles) e && is_at_most_one
          (talkers after.roles))) known.had_one
          ∙ ap (λ (rs : List Roles). has_one_talker (all_without_roles k) log && (is_in_turn
          (talkers rs) e && is_at_most_one (talkers after.roles))) known.roles
          ∙ ap (λ (rs : List Roles). has_one_talker (all_without_roles k) log && (is_in_turn (talkers (roles_after
          (all_without_roles k) log)) e && is_at_most_one (talkers rs))) now
          ∙ sym (one_more (all_without_roles k) log e);
    }

pub taken_all : (n : ℕ) (xs ys : List Roles) → length xs ≡ n → take n (xs ++ ys) ≡ xs
taken_all n xs ys e = rw (sym e) (take-append_seam xs ys)
