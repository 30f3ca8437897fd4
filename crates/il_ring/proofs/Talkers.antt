-- If at most one device talks, all others are silent.
use Rattle.std.proofs.Common.{◌≡◌, ◌++◌, ℕ, suc, Bool, true, false, List, [], ◌∷◌, refl, sym, ap, ◌∙◌}
use Rattle.std.specs.Prelude.{if◌then◌else◌}
use Rattle.il_device.specs.State.{DeviceState}
use Rattle.loop_model.specs.Roles.{talkers_from, is_at_most_one}
use Rattle.il_ring.specs.Rings.{roles_of}
use Rattle.il_ring.specs.Lists.{AllSilent}

none_ahead : (talks : Bool) (k : ℕ) (ps : List ℕ) → ((if talks then k ∷ [] else []) ++ ps) ≡ [] → (talks ≡ false) × (ps ≡ [])
none_ahead true k ps e = cc
none_ahead false k ps e = (refl, e)

pub none_talk : (k : ℕ) (ds : List DeviceState) → talkers_from k (roles_of ds) ≡ [] → AllSilent ds
none_talk k [] none = tt
none_talk k (d ∷ ds) none = let parts = none_ahead d.roles.talks k (talkers_from (suc k) (roles_of ds)) none in (parts.0, none_talk (suc k) ds parts.1)

one_alone : (k : ℕ) (ps : List ℕ) → is_at_most_one (k ∷ ps) ≡ true → ps ≡ []
one_alone k [] one = refl
one_alone k (p ∷ ps) one = cc

silent_in : (bs rest : List DeviceState) (d : DeviceState) → AllSilent (bs ++ d ∷ rest) → d.roles.talks ≡ false
silent_in [] rest d all = all.0
silent_in (b ∷ bs) rest d all = silent_in bs rest d all.1

pub one_talks : (k : ℕ) (bs rest : List DeviceState) (d : DeviceState) → is_at_most_one (talkers_from k (roles_of (bs ++ d ∷ rest))) ≡ true → d.roles.talks ≡ true → AllSilent bs × AllSilent rest
one_talks k [] rest d one talks =
    let alone : is_at_most_one (k ∷ talkers_from (suc k) (roles_of rest)) ≡ true = ap (λ talks. is_at_most_one ((if talks then k ∷ [] else []) ++ talkers_from (suc k) (roles_of rest))) (sym talks) ∙ one in
    (tt, none_talk (suc k) rest (one_alone k (talkers_from (suc k) (roles_of rest)) alone))
one_talks k (b ∷ bs) rest d one talks = by_first b.roles.talks refl one (λ one. one_talks (suc k) bs rest d one talks)
  where
    by_first : (first : Bool) → b.roles.talks ≡ first → is_at_most_one ((if first then k ∷ [] else []) ++ talkers_from (suc k) (roles_of (bs ++ d ∷ rest))) ≡ true
        → (is_at_most_one (talkers_from (suc k) (roles_of (bs ++ d ∷ rest))) ≡ true → AllSilent bs × AllSilent rest) → AllSilent (b ∷ bs) × AllSilent rest
    by_first true is one more =
        let all = none_talk (suc k) (bs ++ d ∷ rest) (one_alone k (talkers_from (suc k) (roles_of (bs ++ d ∷ rest))) one) in
        let clash = sym talks ∙ silent_in bs rest d all in cc
    by_first false is one more = let others = more one in ((is, others.0), others.1)
