-- Names that are read one by one.
use Rattle.std.proofs.Common.{◌≡◌, ◌<◌, ◌+◌, ◌∙◌, ◌++◌, ◌∷◌, Bor, get_or, drop, length, map, ℕ, List, [], Option, Some, None, refl, sym, ap, arith}
use Rattle.std.specs.Prelude.{option_map, option_and_then, is_none, if◌then◌else◌}
use Rattle.std.proofs.Math.ListN.{get_or-map}
use Rattle.std.proofs.lemmas.List.{append_assoc, append-nil, drop_more, length-map}
use Rattle.lif_dir.specs.declared.entries.Name.{Name}
use Rattle.tape_arguments.specs.Names.{name_spelt, names_spelt, unspelt}

-- these names, and then those that are to come, if there are some
abbrev pub with_names : List Name → Option (List Name) → Option (List Name)
with_names names rest = option_map (λ more. names ++ more) rest

-- a name before those that the rest spells
abbrev pub name_before : Option Name → Option (List Name) → Option (List Name)
name_before name rest = option_and_then (λ name. option_map (λ names. name ∷ names) rest) name

one_name_more : (names : List Name) (name : Name) (rest : Option (List Name)) → with_names (names ++ name ∷ []) rest ≡ with_names names (name_before (Some name) rest)
one_name_more names name None = refl
one_name_more names name (Some more) = ap Some (append_assoc names (name ∷ []) more)

-- as many names as texts
pub spelt_length : (texts : List (List ℕ)) (names : List Name) → names_spelt texts ≡ Some names → length names ≡ length texts
spelt_length [] names is = ap length (other is)
  where
    other : Some [] ≡ Some names → names ≡ []
    other e = cc
spelt_length (text ∷ texts) names is = go (λ more. spelt_length texts more) (name_spelt text) (names_spelt texts) refl is
  where
    go : ((more : List Name) → names_spelt texts ≡ Some more → length more ≡ length texts) → (a : Option Name) (b : Option (List Name)) → names_spelt texts ≡ b → name_before a b ≡ Some names
        → length names ≡ length (text ∷ texts)
    go rest None b found is = cc
    go rest (Some name) None found is = cc
    go rest (Some name) (Some more) found is =
        let same : name ∷ more ≡ names = cc in
        let long = ap length same in
        let shorter = rest more found in
        omega (arith, long, shorter)

module _ (texts : List (Bor (List ℕ))) (i : ℕ) (d : Bor (List ℕ)) (within : i < length texts) where
  abbrev words : List (List ℕ)
  words = map (λ text. text.now) texts

  spelt_here : names_spelt (drop i words) ≡ name_before (name_spelt (get_or texts i d).now) (names_spelt (drop (i + 1) words))
  spelt_here =
      let many = length-map texts (λ text. text.now) in
      ap names_spelt (drop_more words i d.now (omega (arith, within, many)))
      ∙ ap (λ (word : List ℕ). name_before (name_spelt word) (names_spelt (drop (i + 1) words))) (get_or-map (λ text. text.now) texts i d)

  -- the next text spells this name
  pub names_more : (names : List Name) (name : Name) (found : Option Name) → found ≡ name_spelt (get_or texts i d).now → found ≡ Some name → with_names names (names_spelt (drop i words)) ≡ names_spelt words
      → with_names (names ++ name ∷ []) (names_spelt (drop (i + 1) words)) ≡ names_spelt words
  names_more names name found spells is whole =
      one_name_more names name (names_spelt (drop (i + 1) words))
      ∙ ap (λ (o : Option Name). with_names names (name_before o (names_spelt (drop (i + 1) words)))) (sym is ∙ spells)
      ∙ ap (with_names names) (sym spelt_here) ∙ whole

  -- it spells none
  pub no_names : (names : List Name) (found : Option Name) → found ≡ name_spelt (get_or texts i d).now → found ≡ None → with_names names (names_spelt (drop i words)) ≡ names_spelt words → names_spelt words ≡ None
  no_names names found spells is whole =
      sym whole ∙ ap (with_names names) spelt_here ∙ ap (λ (o : Option Name). with_names names (name_before o (names_spelt (drop (i + 1) words)))) (sym spells ∙ is)

  -- the first text from here on that spells no name, by whether this one spells one
  abbrev first_from : Option Name → Option (List ℕ)
  first_from name = if is_none name then Some (get_or texts i d).now else unspelt (drop (i + 1) words)

  unspelt_here : unspelt (drop i words) ≡ first_from (name_spelt (get_or texts i d).now)
  unspelt_here =
      let many = length-map texts (λ text. text.now) in
      ap unspelt (drop_more words i d.now (omega (arith, within, many)))
      ∙ ap (λ (word : List ℕ). if is_none (name_spelt word) then Some word else unspelt (drop (i + 1) words)) (get_or-map (λ text. text.now) texts i d)

  -- the next text spells a name
  pub unspelt_more : (name : Name) (found : Option Name) → found ≡ name_spelt (get_or texts i d).now → found ≡ Some name → unspelt (drop i words) ≡ unspelt words → unspelt (drop (i + 1) words) ≡ unspelt words
  unspelt_more name found spells is whole = sym (unspelt_here ∙ ap first_from (sym spells ∙ is)) ∙ whole

  -- it spells none
  pub first_unspelt : (found : Option Name) → found ≡ name_spelt (get_or texts i d).now → found ≡ None → unspelt (drop i words) ≡ unspelt words → unspelt words ≡ Some (get_or texts i d).now
  first_unspelt found spells is whole = sym whole ∙ unspelt_here ∙ ap first_from (sym spells ∙ is)

-- none is to come
pub all_names : (names : List Name) (whole : Option (List Name)) → with_names names (Some []) ≡ whole → whole ≡ Some names
all_names names whole is = sym is ∙ ap Some (append-nil names)
