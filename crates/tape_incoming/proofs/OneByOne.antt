-- Files of the host that are read one after the other.
use Rattle.std.proofs.Common.{◌≡◌, ◌<◌, ◌+◌, ◌∙◌, ◌++◌, ◌∷◌, ◌-◌, Bor, get_or, drop, take, length, length-append, map, ℕ, Bool, true, false, List, [], Option, Some, None, All, refl, sym, ap, subst, arith}
use Rattle.std.specs.Prelude.{IfOk, Result, Ok, Err, is_some}
use Rattle.std.proofs.Math.ListN.{get_or-map}
use Rattle.std.proofs.lemmas.List.{append_assoc, append-nil, drop_more, length-drop, length-map, map-append, take_all}
use Rattle.std.proofs.lemmas.List.Elements.{All-push}
use Rattle.lif_dir.specs.declared.entries.Name.{Name}
use Rattle.lif_dir.specs.declared.names.NewName.{NewName}
use Rattle.il_ports.specs.Files.{FileView}
use Rattle.il_ports.specs.NamedImages.{ImagesView}
use Rattle.tape_names.specs.declared.host_names.HostEntry.{HostEntry}
use Rattle.mended_names.specs.Mending.{names_for}
use Rattle.mended_names.proofs.Laws.{length-mended}
use Rattle.tape_changes.specs.declared.storing.Incoming.{Incoming}
use Rattle.tape_incoming.specs.declared.arriving.NotStored.{NotStored}
use Rattle.tape_incoming.specs.declared.arriving.Refused.{Refused}
use Rattle.tape_incoming.specs.Incoming.{Adds, Arrive, ByEntry, RefusedFile, entry_stated, names_stated, refused_file, with_stated}

-- ---- the names

-- as many names as files
pub given_length : (mend : Bool) (names : List Name) → length (names_for mend names) ≡ length names
given_length false names = length-map names _
given_length true names = length-mended _ names

module _ (paths : List (Bor (List ℕ))) (i : ℕ) (d : Bor (List ℕ)) (within : i < length paths) where
  abbrev words : List (List ℕ)
  words = map (λ path. path.now) paths

  abbrev word : List ℕ
  word = (get_or paths i d).now

  -- the next path, and those after it
  pub words_here : drop i words ≡ word ∷ drop (i + 1) words
  words_here =
      let many = length-map paths (λ path. path.now) in
      drop_more words i d.now (omega (arith, within, many)) ∙ ap (λ (w : List ℕ). w ∷ drop (i + 1) words) (get_or-map (λ path. path.now) paths i d)

  pub stated_here : names_stated (drop i words) ≡ with_stated (entry_stated word) (names_stated (drop (i + 1) words))
  stated_here = ap names_stated words_here

  pub stated_none : (names whole : List Name) → entry_stated word ≡ None → names ++ names_stated (drop i words) ≡ whole → names ++ names_stated (drop (i + 1) words) ≡ whole
  stated_none names whole none held =
      ap (λ (e : Option HostEntry). names ++ with_stated e (names_stated (drop (i + 1) words))) (sym none) ∙ ap (λ (l : List Name). names ++ l) (sym stated_here) ∙ held

  pub stated_one : (names now whole : List Name) (entry : HostEntry) → now ≡ names ++ entry.name ∷ [] → entry_stated word ≡ Some entry → names ++ names_stated (drop i words) ≡ whole → now ++ names_stated (drop (i + 1) words) ≡ whole
  stated_one names now whole entry more is held =
      ap (λ (l : List Name). l ++ names_stated (drop (i + 1) words)) more
      ∙ append_assoc names (entry.name ∷ []) (names_stated (drop (i + 1) words))
      ∙ ap (λ (e : Option HostEntry). names ++ with_stated e (names_stated (drop (i + 1) words))) (sym is) ∙ ap (λ (l : List Name). names ++ l) (sym stated_here) ∙ held

-- ---- what was read so far

-- these files and those refused were added
abbrev pub AddsLast : (path : List ℕ) → Result Incoming NotStored → (files files_now : List Incoming) (refused refused_now : List Refused) → Type 0
AddsLast path (Ok file) files files_now refused refused_now = (files_now ≡ files ++ file ∷ []) × (refused_now ≡ refused)
AddsLast path (Err why) files files_now refused refused_now =
    (files_now ≡ files) × ((r : Refused) × (refused_now ≡ refused ++ r ∷ []) × (refused_file r ≡ record { path = path; why = why }))

module _ {F I : Type 0} (view : F → FileView) (seen : I → ImagesView) where
  -- if the rest is read from here on, all are, with what was added so far and then that of the rest
  abbrev pub Joins : (all paths : List (List ℕ)) → (given names : List (Option NewName)) → (old now : I) → (files : List Incoming) → (refused : List Refused) → Type 0
  Joins all paths given names old now files refused =
      (new : I) (more : List Incoming) (others : List RefusedFile) → Arrive view seen paths names now new more others → Arrive view seen all given old new (files ++ more) (map refused_file refused ++ others)

  pub joins_none : (all paths : List (List ℕ)) (given names : List (Option NewName)) (old : I) (files : List Incoming) (refused : List Refused) → paths ≡ all → names ≡ given → files ≡ [] → refused ≡ []
      → Joins all paths given names old old files refused
  joins_none all paths given names old files refused same_paths same_names no_files none_refused new more others rest =
      subst (λ (l : List Incoming). Arrive view seen all given old new (l ++ more) (map refused_file refused ++ others)) (sym no_files)
      (subst (λ (l : List Refused). Arrive view seen all given old new more (map refused_file l ++ others)) (sym none_refused)
      (subst (λ (l : List (List ℕ)). Arrive view seen l given old new more others) same_paths
      (subst (λ (l : List (Option NewName)). Arrive view seen paths l old new more others) same_names rest)))

  module _ (all : List (List ℕ)) (given : List (Option NewName)) (old now : I) (files : List Incoming) (refused : List Refused) (path : List ℕ) (paths : List (List ℕ)) (names rest : List (Option NewName)) (between : I)
      (read : (outcome : Result Incoming NotStored) → Type 0) where
    adds_first : (outcome : Result Incoming NotStored) (files_now : List Incoming) (refused_now : List Refused) → AddsLast path outcome files files_now refused refused_now → (more : List Incoming) (others : List RefusedFile)
        → (first : List Incoming) × (told : List RefusedFile) × Adds path outcome first told more others × (files_now ++ more ≡ files ++ first) × (map refused_file refused_now ++ others ≡ map refused_file refused ++ told)
    adds_first (Ok file) files_now refused_now adds more others = (
      file ∷ more,
      others,
      (refl, refl),
      ap (λ (l : List Incoming). l ++ more) adds.0 ∙ append_assoc files (file ∷ []) more,
      ap (λ (l : List Refused). map refused_file l ++ others) adds.1,
    )
    adds_first (Err why) files_now refused_now adds more others = (
      more,
      record { path = path; why = why } ∷ others,
      (refl, refl),
      ap (λ (l : List Incoming). l ++ more) adds.0,
      ap (λ (l : List Refused). map refused_file l ++ others) adds.1.1
          ∙ ap (λ (l : List RefusedFile). l ++ others) (map-append refused_file refused (adds.1.0 ∷ []))
          ∙ append_assoc (map refused_file refused) (refused_file adds.1.0 ∷ []) others
          ∙ ap (λ (r : RefusedFile). map refused_file refused ++ r ∷ others) adds.1.2,
    )

  pub joins_next : (all : List (List ℕ)) (given : List (Option NewName)) (old now : I) (files : List Incoming) (refused : List Refused) (here : List (List ℕ)) (path : List ℕ) (paths : List (List ℕ)) (names rest : List (Option NewName)) (between : I)
      (outcome : Result Incoming NotStored) (files_now : List Incoming) (refused_now : List Refused)
      → here ≡ path ∷ paths → Joins all here given names old now files refused → ByEntry view seen path (entry_stated path) names rest now between outcome → AddsLast path outcome files files_now refused refused_now
      → Joins all paths given rest old between files_now refused_now
  joins_next all given old now files refused here path paths names rest between outcome files_now refused_now split joins by adds new more others last =
      let added = adds_first all given old now files refused path paths names rest between (λ o. Unit {0}) outcome files_now refused_now adds more others in
      subst (λ (l : List Incoming). Arrive view seen all given old new l (map refused_file refused_now ++ others)) (sym added.3)
      (subst (λ (l : List RefusedFile). Arrive view seen all given old new (files ++ added.0) l) (sym added.4)
      (joins new added.0 added.1 (subst (λ (l : List (List ℕ)). Arrive view seen l names now new added.0 added.1) (sym split) (rest, between, outcome, more, others, by, added.2, last))))

  pub joins_all : (all paths : List (List ℕ)) (given names : List (Option NewName)) (old now : I) (files : List Incoming) (refused : List Refused) → paths ≡ [] → Joins all paths given names old now files refused
      → Arrive view seen all given old now files (map refused_file refused)
  joins_all all paths given names old now files refused none joins =
      subst (λ (l : List Incoming). Arrive view seen all given old now l (map refused_file refused)) (append-nil files)
      (subst (λ (l : List RefusedFile). Arrive view seen all given old now (files ++ []) l) (append-nil (map refused_file refused))
      (joins now [] [] (subst (λ (l : List (List ℕ)). Arrive view seen l names now now [] []) (sym none) (refl, refl, refl))))

  -- the names that are left are as many as the entries that are left
  pub names_left : (path : List ℕ) (entry : Option HostEntry) (names rest : List (Option NewName)) (now between : I) (outcome : Result Incoming NotStored) (others : List Name)
      → ByEntry view seen path entry names rest now between outcome → length names ≡ length (with_stated entry others) → length rest ≡ length others
  names_left path None names rest now between outcome others by count = ap length by.0 ∙ count
  names_left path (Some entry) names rest now between outcome others by count =
      let long = ap length by.1 in
      omega (arith, long, count)

-- how many there are
pub adds_count : (path : List ℕ) (outcome : Result Incoming NotStored) (files files_now : List Incoming) (refused refused_now : List Refused) → AddsLast path outcome files files_now refused refused_now
    → length files_now + length refused_now ≡ length files + length refused + 1
adds_count path (Ok file) files files_now refused refused_now adds =
    let a = ap length adds.0 in
    let b = length-append files (file ∷ []) in
    let c = ap length adds.1 in
    omega (arith, a, b, c)
adds_count path (Err why) files files_now refused refused_now adds =
    let a = ap length adds.0 in
    let b = ap length adds.1.1 in
    let c = length-append refused (adds.1.0 ∷ []) in
    omega (arith, a, b, c)

-- one more file that has a property
pub adds_all : (P : Incoming → Type 0) (path : List ℕ) (outcome : Result Incoming NotStored) (files files_now : List Incoming) (refused refused_now : List Refused) → AddsLast path outcome files files_now refused refused_now
    → IfOk outcome P → All P files → All P files_now
adds_all P path (Ok file) files files_now refused refused_now adds has all = subst (All P) (sym adds.0) (All-push P files file all has)
adds_all P path (Err why) files files_now refused refused_now adds has all = subst (All P) (sym adds.0) all

-- a file that was pushed
pub adds_ok : (path : List ℕ) (outcome : Result Incoming NotStored) (file : Incoming) (files files_now : List Incoming) (refused refused_now : List Refused) → outcome ≡ Ok file → files_now ≡ files ++ file ∷ [] → refused_now ≡ refused
    → AddsLast path outcome files files_now refused refused_now
adds_ok path outcome file files files_now refused refused_now is more same =
    subst (λ (o : Result Incoming NotStored). AddsLast path o files files_now refused refused_now) (sym is) (more, same)

-- a refusal that was pushed
pub adds_err : (path : List ℕ) (outcome : Result Incoming NotStored) (r : Refused) (files files_now : List Incoming) (refused refused_now : List Refused) → outcome ≡ Err r.why → files_now ≡ files → refused_now ≡ refused ++ r ∷ [] → r.path.now ≡ path
    → AddsLast path outcome files files_now refused refused_now
adds_err path outcome r files files_now refused refused_now is same more at =
    subst (λ (o : Result Incoming NotStored). AddsLast path o files files_now refused refused_now) (sym is)
    (same, (r, more, (λ j. record { path = at j; why = r.why })))

-- an entry that is stated has a name
pub some_left : (entry : Option HostEntry) (others : List Name) → is_some entry ≡ true → 0 < length (with_stated entry others)
some_left None others on = cc
some_left (Some e) others on = omega arith

-- the elements from one place on
pub rest_of : {X : Type 0} (items given : List X) (i : ℕ) → items ≡ given → take (length items - i) (drop i items) ≡ drop i given
rest_of items given i same =
    let size = length-drop i items in
    take_all (length items - i) (drop i items) (omega (arith, size)) ∙ ap (drop i) same
