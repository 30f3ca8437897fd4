-- Worked examples, computed by the checker.
use Rattle.std.proofs.Common.{◌≡◌, [], ◌∷◌, Some, None, true, false, refl, codes}
use Rattle.clap.proofs.OnLiterals.{clap_on_literals}
use Rattle.tape_words.specs.declared.jobs.Topic.TheVariants as topic
use Rattle.tape_words.specs.Simple.{tape_app}
use Rattle.tape_words.specs.Asked.{Dir, Out, Get, Raw, Free, Map, Why, Diff, New, Put, Set, In, Help, Version, arguments_in}

listing : arguments_in (codes "dir" ∷ codes "TAPE" ∷ []) ≡ Some (Dir false false (codes "TAPE" ∷ []))
unfolding tape_app clap_on_literals
listing = refl

-- options may follow an image, and the images keep their order
listings : arguments_in (codes "dir" ∷ codes "--csv" ∷ codes "B" ∷ codes "--all" ∷ codes "A" ∷ []) ≡ Some (Dir true true (codes "B" ∷ codes "A" ∷ []))
unfolding tape_app clap_on_literals
listings = refl

-- after `--` an image may begin with `-`
after_dashes : arguments_in (codes "dir" ∷ codes "--" ∷ codes "--csv" ∷ []) ≡ Some (Dir false false (codes "--csv" ∷ []))
unfolding tape_app clap_on_literals
after_dashes = refl

-- the names may be left out, and keep their order
copies : (arguments_in (codes "out" ∷ codes "TAPE" ∷ codes "files" ∷ []) ≡ Some (Out (codes "TAPE") (codes "files") []))
    × (arguments_in (codes "out" ∷ codes "TAPE" ∷ codes "files" ∷ codes "B" ∷ codes "A" ∷ []) ≡ Some (Out (codes "TAPE") (codes "files") (codes "B" ∷ codes "A" ∷ [])))
unfolding tape_app clap_on_literals
copies = (refl, refl)

one_file : (arguments_in (codes "get" ∷ codes "TAPE" ∷ codes "NOTE" ∷ []) ≡ Some (Get (codes "TAPE") (codes "NOTE")))
    × (arguments_in (codes "raw" ∷ codes "TAPE" ∷ codes "NOTE" ∷ []) ≡ Some (Raw (codes "TAPE") (codes "NOTE")))
unfolding tape_app clap_on_literals
one_file = (refl, refl)

-- one argument where the job needs two, and a second name
no_files : (arguments_in (codes "out" ∷ codes "TAPE" ∷ []) ≡ None) × (arguments_in (codes "get" ∷ codes "TAPE" ∷ []) ≡ None)
    × (arguments_in (codes "raw" ∷ codes "TAPE" ∷ []) ≡ None) × (arguments_in (codes "get" ∷ codes "TAPE" ∷ codes "A" ∷ codes "B" ∷ []) ≡ None)
unfolding tape_app clap_on_literals
no_files = (refl, refl, refl, refl)

one_image : (arguments_in (codes "free" ∷ codes "TAPE" ∷ []) ≡ Some (Free (codes "TAPE")))
    × (arguments_in (codes "why" ∷ codes "TAPE" ∷ []) ≡ Some (Why (codes "TAPE")))
    × (arguments_in (codes "map" ∷ codes "TAPE" ∷ []) ≡ Some (Map false (codes "TAPE")))
    × (arguments_in (codes "map" ∷ codes "TAPE" ∷ codes "--svg" ∷ []) ≡ Some (Map true (codes "TAPE")))
unfolding tape_app clap_on_literals
one_image = (refl, refl, refl, refl)

-- no image, a second one, and an option of another job
no_images : (arguments_in (codes "free" ∷ []) ≡ None) × (arguments_in (codes "free" ∷ codes "A" ∷ codes "B" ∷ []) ≡ None)
    × (arguments_in (codes "why" ∷ codes "--svg" ∷ codes "A" ∷ []) ≡ None)
unfolding tape_app clap_on_literals
no_images = (refl, refl, refl)

two_images : (arguments_in (codes "diff" ∷ codes "A" ∷ codes "B" ∷ []) ≡ Some (Diff (codes "A") (codes "B")))
    × (arguments_in (codes "diff" ∷ codes "A" ∷ []) ≡ None)
unfolding tape_app clap_on_literals
two_images = (refl, refl)

-- the options may stand anywhere, and each of the three arguments is needed
new_images : (arguments_in (codes "new" ∷ codes "TAPE" ∷ codes "HPTAPE" ∷ codes "16" ∷ []) ≡ Some (New false false (codes "TAPE") (codes "HPTAPE") (codes "16")))
    × (arguments_in (codes "new" ∷ codes "--small" ∷ codes "TAPE" ∷ codes "L" ∷ codes "9" ∷ []) ≡ Some (New false true (codes "TAPE") (codes "L") (codes "9")))
    × (arguments_in (codes "new" ∷ codes "DISC" ∷ codes "L" ∷ codes "--disc" ∷ codes "9" ∷ []) ≡ Some (New true false (codes "DISC") (codes "L") (codes "9")))
    × (arguments_in (codes "new" ∷ codes "TAPE" ∷ codes "HPTAPE" ∷ []) ≡ None)
unfolding tape_app clap_on_literals
new_images = (refl, refl, refl, refl)

-- `-q` is `--quiet`
stores : (arguments_in (codes "put" ∷ codes "TAPE" ∷ codes "NOTE" ∷ []) ≡ Some (Put false (codes "TAPE") (codes "NOTE")))
    × (arguments_in (codes "put" ∷ codes "-q" ∷ codes "TAPE" ∷ codes "NOTE" ∷ []) ≡ Some (Put true (codes "TAPE") (codes "NOTE")))
    × (arguments_in (codes "set" ∷ codes "TAPE" ∷ codes "NOTE" ∷ codes "--quiet" ∷ []) ≡ Some (Set true (codes "TAPE") (codes "NOTE")))
    × (arguments_in (codes "set" ∷ codes "-q" ∷ codes "TAPE" ∷ []) ≡ None)
unfolding tape_app clap_on_literals
stores = (refl, refl, refl, refl)

-- the options may stand anywhere, and the files keep their order
host_files : (arguments_in (codes "in" ∷ codes "TAPE" ∷ codes "B" ∷ codes "A" ∷ [])
    ≡ Some (In false false false (codes "TAPE") (codes "B" ∷ codes "A" ∷ [])))
    × (arguments_in (codes "in" ∷ codes "--over" ∷ codes "TAPE" ∷ codes "-q" ∷ codes "A" ∷ [])
    ≡ Some (In true false true (codes "TAPE") (codes "A" ∷ [])))
    × (arguments_in (codes "in" ∷ codes "TAPE" ∷ codes "A" ∷ codes "--mend" ∷ [])
    ≡ Some (In false true false (codes "TAPE") (codes "A" ∷ [])))
    × (arguments_in (codes "in" ∷ codes "TAPE" ∷ []) ≡ None)
unfolding tape_app clap_on_literals
host_files = (refl, refl, refl, refl)

helps : (arguments_in (codes "help" ∷ []) ≡ Some (Help None)) × (arguments_in (codes "--help" ∷ []) ≡ Some (Help None))
    × (arguments_in (codes "help" ∷ codes "dir" ∷ []) ≡ Some (Help (Some topic.Dir)))
    × (arguments_in (codes "dir" ∷ codes "--help" ∷ []) ≡ Some (Help (Some topic.Dir)))
unfolding tape_app clap_on_literals
helps = (refl, refl, refl, refl)

-- `--help` goes before `--version`, and both before a job
first_asked : (arguments_in (codes "--version" ∷ []) ≡ Some Version)
    × (arguments_in (codes "--version" ∷ codes "--help" ∷ []) ≡ Some (Help None))
    × (arguments_in (codes "--version" ∷ codes "dir" ∷ codes "TAPE" ∷ []) ≡ Some Version)
unfolding tape_app clap_on_literals
first_asked = (refl, refl, refl)

-- no job, no image, a name of no job, and help for one
no_jobs : (arguments_in [] ≡ None) × (arguments_in (codes "dir" ∷ []) ≡ None) × (arguments_in (codes "list" ∷ []) ≡ None)
    × (arguments_in (codes "help" ∷ codes "list" ∷ []) ≡ None)
unfolding tape_app clap_on_literals
no_jobs = (refl, refl, refl, refl)

-- an option that is unknown, that has a value, or that is given twice
no_options : (arguments_in (codes "dir" ∷ codes "--al" ∷ codes "TAPE" ∷ []) ≡ None)
    × (arguments_in (codes "dir" ∷ codes "--all=1" ∷ codes "TAPE" ∷ []) ≡ None)
    × (arguments_in (codes "dir" ∷ codes "--all" ∷ codes "--all" ∷ codes "TAPE" ∷ []) ≡ None)
unfolding tape_app clap_on_literals
no_options = (refl, refl, refl)
