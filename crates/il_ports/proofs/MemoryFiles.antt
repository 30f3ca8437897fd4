-- One more content joins those that a disk has had.
use Rattle.std.proofs.Common.{◌≡◌, ◌⊎◌, inl, inr, ⊎_elim, ℕ, zero, suc, ◌≤◌, List, [], ◌∷◌, ◌++◌, length, drop, Vec, refl, sym, ap, ◌∙◌, subst, arith, length-append}
use Rattle.std.specs.Prelude.{Bool, false, Option, Some, Ok, unwrap_or}
use Rattle.std.specs.declared.alloc.Global.{Global}
use Rattle.il_ports.specs.Files.{byte_at, TornAt, Synced}
use Rattle.il_ports.specs.Past.{Contents, HadBeen, Since}
use Rattle.il_ports.specs.MemoryFiles.{memory_view}
use Rattle.il_ports.specs.declared.tape_file.Access.{Access}

keeps : (past : Contents) (v : Vec ℕ Global) (c : List ℕ) → HadBeen past c → HadBeen (past ++ v ∷ []) c
keeps [] v c had = absurd had
keeps (p ∷ past) v c (inl here) = inl here
keeps (p ∷ past) v c (inr there) = inr (keeps past v c there)

adds : (past : Contents) (v : Vec ℕ Global) (c : List ℕ) → HadBeen (past ++ v ∷ []) c → HadBeen past c ⊎ (c ≡ v.items)
adds [] v c (inl here) = inr here
adds [] v c (inr none) = absurd none
adds (p ∷ past) v c (inl here) = inl (inl here)
adds (p ∷ past) v c (inr there) = ⊎_elim (λ had. inl (inr had)) (λ new. inr new) (adds past v c there)

newest : (past : Contents) (v : Vec ℕ Global) (c : List ℕ) → c ≡ v.items → HadBeen (past ++ v ∷ []) c
newest [] v c is = inl is
newest (p ∷ past) v c is = inr (newest past v c is)

drop_push : (m : ℕ) (past : Contents) (v : Vec ℕ Global) → m ≤ length past → drop m (past ++ v ∷ []) ≡ drop m past ++ v ∷ []
drop_push zero past v le = refl
drop_push (suc m) [] v le = absurd (omega arith)
drop_push (suc m) (p ∷ past) v le = drop_push m past v (omega arith)

module _ (name seen kept kept₂ : List ℕ) (held : Option Access) (past later : Contents) (v : Vec ℕ Global) (was : v.items ≡ kept) (more : later ≡ past ++ v ∷ []) (synced : kept₂ ≡ seen) where
  split : (m : ℕ) → m ≤ length past → drop m later ≡ drop m past ++ v ∷ []
  split m le = ap (drop m) more ∙ drop_push m past v le

  torn : (s b c : List ℕ) → Some seen ≡ Some s → c ≡ kept₂ → TornAt 0 0 s b c
  torn s b c is now = record {
    elsewhere = λ i out same. ap (λ (l : List ℕ). byte_at l i) (as_seen s c is now) ∙ sym same;
    no_shorter = omega (arith, ap (λ (l : List ℕ). length l) (as_seen s c is now));
    no_longer = omega (arith, ap (λ (l : List ℕ). length l) (as_seen s c is now));
  }
    where
      as_seen : (s c : List ℕ) → Some seen ≡ Some s → c ≡ kept₂ → c ≡ s
      as_seen s c is now = now ∙ synced ∙ ap (λ (o : Option (List ℕ)). unwrap_or o seen) is

  before : (s b : List ℕ) → Some seen ≡ Some s → (m : ℕ) (c : List ℕ) → m ≤ length past → Since later kept₂ m c → Since past kept m c ⊎ TornAt 0 0 s b c
  before s b is m c le (inl now) = inr (torn s b c is now)
  before s b is m c le (inr had) =
      inl (⊎_elim (λ (earlier : HadBeen (drop m past) c). inr earlier) (λ (last : c ≡ v.items). inl (last ∙ was)) (adds (drop m past) v c (subst (λ (l : Contents). HadBeen l c) (split m le) had)))

  since : (m : ℕ) (c : List ℕ) → m ≤ length past → Since past kept m c → Since later kept₂ m c
  since m c le (inl now) = inr (subst (λ (l : Contents). HadBeen l c) (sym (split m le)) (newest (drop m past) v c (now ∙ sym was)))
  since m c le (inr had) = inr (subst (λ (l : Contents). HadBeen l c) (sym (split m le)) (keeps (drop m past) v c had))

  -- all is on the disk
  pub brought : {T E : Type 0} (x : T) (broken broken₂ : Bool) (failures failures₂ : ℕ) → broken₂ ≡ false → failures₂ ≡ failures
      → Synced {T = T} {E = E} (memory_view name seen kept held broken failures past) (memory_view name seen kept₂ held broken₂ failures₂ later) (Ok x)
  brought x broken broken₂ failures failures₂ sound none = record {
    answers = record { itself = record { opened = λ access was. tt; made = λ was. tt; apart = λ was. tt; unsynced = λ was. tt }; named = refl; told = refl; held = λ access held. held; cause = none };
    time = record {
      later = omega (arith, ap (λ (l : Contents). length l) more, length-append past (v ∷ []));
      nothing_else = λ s b seen_is kept_is m c le left. before s b seen_is m c le left;
      keeps = since;
      kept = λ s b seen_is kept_is. (kept₂, refl, torn s b kept₂ seen_is refl);
      told = refl;
    };
    answer_is = (sound, refl, ap Some synced);
  }
