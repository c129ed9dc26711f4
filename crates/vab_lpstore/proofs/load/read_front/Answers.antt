use Rattle.std.proofs.Common.{◌≡◌, ◌*◌, ◌≤◌, ℕ, ap, ◌∙◌, arith}
use Rattle.vab_tables.specs.Needs.{need_of}
use Rattle.vab_lpstore.specs.Layout.{text_sectors}
use Rattle.vab_lpstore.proofs.FrontReads.{front_is, need_room, sectors_within, second_front}
use Rattle.vab_lpstore.proofs.load.read_front.Goals as goal

needed_within : (needed n max count : ℕ)
    → needed ≡ text_sectors n
    → n ≤ max
    → max ≤ 512 * count
    → 1 ≤ count
    → needed ≤ count
needed_within needed n max count is most room some =
    omega (arith, is, sectors_within n count some (omega (arith, most, room)))

pub returns-then-needed-le1-clause-front : goal.returns-then-needed-le1-clause-front
returns-then-needed-le1-clause-front g c = λ t.
    let a = c.args in
    let image = g.D.Disk.seen a.d.now in
    let first = c.in_ok-first.first.items in
    let long = c.in_ok-first.ensures.long in
    let room =
    need_room a.max a.count image a.at first c.needed_size.result c.sectors-needed.result
    (c.in_ok-first.ensures.text t) long c.requires.some
    (c.needed_size.ensures.is ∙ ap (need_of a.max) c.deref.ensures.value)
    c.sectors-needed.ensures in
    front_is a.max 1 a.count image a.at first (c.in_ok-first.ensures.text t) long (omega arith)
    c.requires.some (omega (arith, room, c.if-needed-le1.true))

pub read_text-requires-2 : goal.read_text-requires-2
read_text-requires-2 g c =
    let within =
    needed_within c.sectors-needed.result c.needed_size.result c.args.max c.args.count
    c.sectors-needed.ensures c.needed_size.ensures.most c.requires.room c.requires.some in
    omega (arith, within, c.requires.on_disk, c.in_ok-first.ensures.reads.quiet.size)

pub returns-clause-front : goal.returns-clause-front
returns-clause-front g c = λ t.
    let a = c.args in
    let image = g.D.Disk.seen a.d.now in
    let within =
    needed_within c.sectors-needed.result c.needed_size.result a.max a.count
    c.sectors-needed.ensures c.needed_size.ensures.most c.requires.room c.requires.some in
    let room =
    need_room a.max a.count image a.at c.in_ok-first.first.items c.needed_size.result
    c.sectors-needed.result (c.in_ok-first.ensures.text t) c.in_ok-first.ensures.long
    c.requires.some (c.needed_size.ensures.is ∙ ap (need_of a.max) c.deref.ensures.value)
    c.sectors-needed.ensures in
    second_front (λ v. v.items) c.read_text-2.result a.max c.sectors-needed.result a.count image
    (g.D.Disk.seen c.read_text.new.d) a.at (c.in_ok-first.ensures.reads.seen t)
    (omega (arith, c.if-needed-le1.false)) within room (c.read_text-2.ensures.text t)
    c.read_text-2.ensures.long
