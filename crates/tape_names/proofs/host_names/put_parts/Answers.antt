use Rattle.std.proofs.Common.{◌≡◌, ℕ, List, Some, sym, subst, arith}
use Rattle.lif_dir.specs.Entries.{name_bytes}
use Rattle.lif_dir.specs.declared.entries.Name.{Name}
use Rattle.tape_names.specs.declared.host_names.HostEntry.{HostEntry}
use Rattle.tape_names.specs.HostNames.{host_name_of, entry_of_host_name, AreParts}
use Rattle.tape_names.proofs.HostNames.{host_name_read}
use Rattle.tape_names.proofs.HostBytes.{host_name_safe}
use Rattle.tape_names.proofs.host_names.put_parts.Goals as goal

parts : (c : goal.After-put_host_tail) → AreParts c.args.name.now c.args.kind c.args.field.now
parts c = record { ten = c.told-name; bytes = c.fits-name; fits = omega arith; four = c.told-field; digits = c.fits-field }

named : (file : Name) (name : List ℕ) (kind : ℕ) (field : List ℕ) → name_bytes file ≡ name → AreParts name kind field
    → entry_of_host_name (host_name_of name kind field) ≡ Some (record { name = file; kind = kind; field = field })
named file name kind field is are =
    let e : HostEntry = record { name = file; kind = kind; field = field } in
    subst (λ (l : List ℕ). entry_of_host_name (host_name_of l kind field) ≡ Some e) is
    (host_name_read file kind field (subst (λ (l : List ℕ). AreParts l kind field) (sym is) are))

pub returns-clause-read_back : goal.returns-clause-read_back
returns-clause-read_back c = λ file is. named file c.args.name.now c.args.kind c.args.field.now is (parts c)

pub returns-clause-safe : goal.returns-clause-safe
returns-clause-safe c = host_name_safe c.args.name.now c.args.kind c.args.field.now (parts c)
