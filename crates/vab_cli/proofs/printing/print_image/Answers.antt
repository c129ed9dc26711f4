use Rattle.std.proofs.Common.{◌≡◌, ◌∙◌, List, ℕ, Ok, Err, sym, ap, subst}
use Rattle.std.specs.Prelude.{IfOk}
use Rattle.vab_disk.proofs.CallLaws.{changes_telling}
use Rattle.vab_device.specs.Mounted.{Mounted, state_on, bytes_at, sectors_read}
use Rattle.vab_exchanges.specs.Items.{Item}
use Rattle.vab_manager.specs.Blocks.{KeepsPart}
use Rattle.vab_cli.specs.declared.status.Status.{Status}
use Rattle.vab_cli.specs.declared.status.Status.TheVariants.{Done}
use Rattle.vab_cli.specs.Telling.{DoesItem}
use Rattle.vab_cli.specs.Verbs.{refused_line, line_item}
use Rattle.vab_cli.proofs.Blocks.{image_told, image_done, refusal_told, refusal_done}
use Rattle.vab_cli.proofs.Items.{mounted_is, does_line, print_item}
use Rattle.vab_disk.specs.Disk.{Image}
use Rattle.vab_device.specs.Mounted.{mounted_on}
use Rattle.vab_model.specs.Commands.{Print}
use Rattle.vab_cli.specs.declared.status.Status.TheVariants.{Refused}
use Rattle.vab_cli.specs.Causes.{IsRefusedOn}
use Rattle.vab_cli.proofs.Blocks.{refusal_noted}
use Rattle.vab_cli.proofs.Causing.{if_ok_by}
use Rattle.vab_cli.proofs.printing.print_image.Goals as goal

pub returns-in-Ok-tell_blocks-clause-does : goal.returns-in-Ok-tell_blocks-clause-does
returns-in-Ok-tell_blocks-clause-does g c = λ t s stands.
    let old = c.args.port.now in
    let new = c.tell_blocks.new.port in
    let size = g.P.Disk.size old in
    let image = g.P.Disk.seen old in
    let same = ap (λ (m : Mounted). m.state)
    (mounted_is c.args.device.now size image s (c.requires.represents t) stands) in
    let found = c.in-Ok.ensures.image image in
    let p = found.2 in
    let kept = subst (λ (name : List ℕ). KeepsPart c.args.device.now c.in-Ok.slot name p)
    (sym c.base_of.ensures) found.3 in
    let text = image_told (state_on c.args.device.now image) s.state c.args.name.now found.0
    (bytes_at image (sectors_read p)) same found.1 found.4 in
    subst (λ (i : Item Mounted). DoesItem g.P.Disk {A = Status} {E = Status} size i old new
    (Ok Done))
    (ap (line_item s) text ∙ sym (print_item s c.args.name.now _))
    (does_line g.P.Disk size s (bytes_at image (sectors_read p)) old new _ stands
    (let says = c.in-Ok-tell_blocks.ensures.says t p kept in record {
      told = says.told;
      front = says.front;
      seen = says.seen;
      crash = says.crash;
      left = says.left;
      heard = says.heard;
      time = says.time;
    }))

pub returns-in-Ok-tell_blocks-clause-status : goal.returns-in-Ok-tell_blocks-clause-status
returns-in-Ok-tell_blocks-clause-status g c = λ t s stands.
    let image = g.P.Disk.seen c.args.port.now in
    let same = ap (λ (m : Mounted). m.state)
    (mounted_is c.args.device.now _ image s (c.requires.represents t) stands) in
    let found = c.in-Ok.ensures.image image in
    image_done (state_on c.args.device.now image) s c.args.name.now found.0 same found.1

pub returns-in-Err-tell_blocks-clause-does : goal.returns-in-Err-tell_blocks-clause-does
returns-in-Err-tell_blocks-clause-does g c = λ t s stands.
    let old = c.args.port.now in
    let new = c.tell_blocks.new.port in
    let size = g.P.Disk.size old in
    let image = g.P.Disk.seen old in
    let same = ap (λ (m : Mounted). m.state)
    (mounted_is c.args.device.now size image s (c.requires.represents t) stands) in
    let found = c.in-Ok.ensures.image image in
    let p = found.2 in
    let kept = subst (λ (name : List ℕ). KeepsPart c.args.device.now c.in-Ok.slot name p)
    (sym c.base_of.ensures) found.3 in
    let text = image_told (state_on c.args.device.now image) s.state c.args.name.now found.0
    (bytes_at image (sectors_read p)) same found.1 found.4 in
    subst
    (λ (i : Item Mounted).
    DoesItem g.P.Disk {A = Status} {E = Status} size i old new (Err c.in-Err-tell_blocks.status))
    (ap (line_item s) text ∙ sym (print_item s c.args.name.now _))
    (does_line g.P.Disk size s (bytes_at image (sectors_read p)) old new _ stands
    (let says = c.in-Err-tell_blocks.ensures.says t p kept in record {
      told = tt;
      front = says.front;
      seen = says.seen;
      crash = says.crash;
      left = says.left;
      heard = says.heard;
      time = says.time;
    }))

pub returns-in-Err-clause-does : goal.returns-in-Err-clause-does
returns-in-Err-clause-does g c = λ t s stands.
    let old = c.args.port.now in
    let new = c.refuse.new.port in
    let size = g.P.Disk.size old in
    let image = g.P.Disk.seen old in
    let same = ap (λ (m : Mounted). m.state)
    (mounted_is c.args.device.now size image s (c.requires.represents t) stands) in
    let text = refusal_told (state_on c.args.device.now image) s.state c.args.name.now
    c.in-Err.refusal same (c.in-Err.ensures.refused image) in
    subst (λ (i : Item Mounted). DoesItem g.P.Disk {A = Status} {E = Status} size i old new
    c.refuse.result)
    (ap (line_item s) text ∙ sym (print_item s c.args.name.now _))
    (does_line g.P.Disk size s (refused_line c.in-Err.refusal) old new c.refuse.result stands
    (c.refuse.ensures.says t))

pub returns-in-Ok-tell_blocks-clause-quiet : goal.returns-in-Ok-tell_blocks-clause-quiet
returns-in-Ok-tell_blocks-clause-quiet g c = λ t.
    let found = c.in-Ok.ensures.image (g.P.Disk.seen c.args.port.now) in
    let kept = subst (λ (name : List ℕ). KeepsPart c.args.device.now c.in-Ok.slot name found.2)
    (sym c.base_of.ensures) found.3 in
    let says = c.in-Ok-tell_blocks.ensures.says t found.2 kept in
    record { left = says.left; heard = says.heard }

pub returns-in-Err-tell_blocks-clause-quiet : goal.returns-in-Err-tell_blocks-clause-quiet
returns-in-Err-tell_blocks-clause-quiet g c = λ t.
    let found = c.in-Ok.ensures.image (g.P.Disk.seen c.args.port.now) in
    let kept = subst (λ (name : List ℕ). KeepsPart c.args.device.now c.in-Ok.slot name found.2)
    (sym c.base_of.ensures) found.3 in
    let says = c.in-Err-tell_blocks.ensures.says t found.2 kept in
    record { left = says.left; heard = says.heard }

pub returns-in-Err-clause-status : goal.returns-in-Err-clause-status
returns-in-Err-clause-status g c = λ t s stands.
    let image = g.P.Disk.seen c.args.port.now in
    let same = ap (λ (m : Mounted). m.state)
    (mounted_is c.args.device.now _ image s (c.requires.represents t) stands) in
    subst (λ (x : Status). IfOk c.refuse.result (λ (status : Status). status ≡ x))
    (refusal_done (state_on c.args.device.now image) s c.args.name.now c.in-Err.refusal same
    (c.in-Err.ensures.refused image))
    c.refuse.ensures.status

pub returns-in-Ok-tell_blocks-clause-changes : goal.returns-in-Ok-tell_blocks-clause-changes
returns-in-Ok-tell_blocks-clause-changes g c = λ t.
    let old = c.args.port.now in
    let new = c.tell_blocks.new.port in
    let found = c.in-Ok.ensures.image (g.P.Disk.seen old) in
    let kept = subst (λ (name : List ℕ). KeepsPart c.args.device.now c.in-Ok.slot name found.2)
    (sym c.base_of.ensures) found.3 in
    let says = c.in-Ok-tell_blocks.ensures.says t found.2 kept in
    changes_telling g.P.Disk _ (bytes_at (g.P.Disk.seen old) (sectors_read found.2)) old new
    c.tell_blocks.ensures.size (λ t. says.seen) (λ t. says.crash) (λ t. says.time)

pub returns-in-Err-tell_blocks-clause-changes : goal.returns-in-Err-tell_blocks-clause-changes
returns-in-Err-tell_blocks-clause-changes g c = λ t.
    let old = c.args.port.now in
    let new = c.tell_blocks.new.port in
    let found = c.in-Ok.ensures.image (g.P.Disk.seen old) in
    let kept = subst (λ (name : List ℕ). KeepsPart c.args.device.now c.in-Ok.slot name found.2)
    (sym c.base_of.ensures) found.3 in
    let says = c.in-Err-tell_blocks.ensures.says t found.2 kept in
    changes_telling g.P.Disk _ (bytes_at (g.P.Disk.seen old) (sectors_read found.2)) old new
    c.tell_blocks.ensures.size (λ t. says.seen) (λ t. says.crash) (λ t. says.time)

pub returns-in-Err-clause-changes : goal.returns-in-Err-clause-changes
returns-in-Err-clause-changes g c = λ t.
    let says = c.refuse.ensures.says t in
    changes_telling g.P.Disk _ (refused_line c.in-Err.refusal) c.args.port.now c.refuse.new.port
    c.refuse.ensures.size (λ t. says.seen) (λ t. says.crash) (λ t. says.time)

pub returns-in-Err-clause-refused : goal.returns-in-Err-clause-refused
returns-in-Err-clause-refused g c =
    if_ok_by c.refuse.result
    (λ (status : Status).
    status ≡ Refused
    → (image : Image)
    → IsRefusedOn (mounted_on c.args.device.now image) (Print c.args.name.now)
    c.note_refusal.new.cause)
    (λ status is image.
    refusal_noted c.args.device.now image c.args.name.now c.in-Err.refusal
    c.note_refusal.new.cause (c.in-Err.ensures.refused image) c.note_refusal.ensures)
