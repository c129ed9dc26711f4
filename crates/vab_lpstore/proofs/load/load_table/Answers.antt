use Rattle.std.proofs.Common.{◌≡◌, ℕ, List, subst, arith}
use Rattle.vab_disk.specs.Disk.{Image}
use Rattle.vab_gate.specs.Gate.{sectors_at}
use Rattle.vab_lpstore.specs.Front.{IsFront}
use Rattle.vab_lpstore.specs.Layout.{primary_bytes, backup_bytes}
use Rattle.vab_lpstore.specs.Loading.{slot_table, Gives}
use Rattle.vab_lpstore.proofs.FrontReads.{fronts_say, fronts_loaded}
use Rattle.vab_lpstore.proofs.StoreLaws.{copies_apart, loaded_fits}
use Rattle.vab_lpstore.proofs.Judging.{if_ok_map}
use Rattle.vab_lpstore.proofs.load.load_table.Goals as goal

-- the front of the copy at its place
placed : (max n m : ℕ) (old new : Image) (at place : ℕ) (bytes : List ℕ)
    → n ≡ m
    → at ≡ place
    → new ≡ old
    → IsFront max (sectors_at n new at) bytes
    → IsFront max (sectors_at m old place) bytes
placed max n m old new at place bytes count here same is =
    subst (λ (image : Image). IsFront max (sectors_at m image place) bytes) same
    (subst (λ (s : ℕ). IsFront max (sectors_at m new s) bytes) here
    (subst (λ (k : ℕ). IsFront max (sectors_at k new at) bytes) count is))

pub read_front-requires-clause-on_disk : goal.read_front-requires-clause-on_disk
read_front-requires-clause-on_disk g c =
    omega (
      arith,
      copies_apart c.args.geometry.now c.args.slot c.requires.slot,
      c.requires.on_disk,
      c.copy_size-count.ensures,
      c.primary.ensures,
    )

pub returns-clause-table : goal.returns-clause-table
unfolding slot_table
returns-clause-table g c = λ t.
    let a = c.args in
    let geometry = a.geometry.now in
    let image = g.D.Disk.seen a.d.now in
    let first =
    placed geometry.max _ _ image image _ _ c.in_ok-primary.primary.items c.copy_size-count.ensures
    c.primary.ensures (λ i. image) (c.in_ok-primary.ensures.front t) in
    let second =
    placed geometry.max _ _ image (g.D.Disk.seen c.read_front.new.d) _ _
    c.in_ok-backup.backup.items c.copy_size-count.ensures c.backup.ensures
    (c.in_ok-primary.ensures.reads.seen t) (c.in_ok-backup.ensures.front t) in
    subst (Gives c.choose.result)
    (fronts_say geometry.max (primary_bytes geometry a.slot image)
    (backup_bytes geometry a.slot image) c.in_ok-primary.primary.items c.in_ok-backup.backup.items
    first second) c.choose.ensures.table

pub returns-clause-loaded : goal.returns-clause-loaded
returns-clause-loaded g c = λ t.
    let a = c.args in
    let geometry = a.geometry.now in
    let image = g.D.Disk.seen a.d.now in
    let first =
    placed geometry.max _ _ image image _ _ c.in_ok-primary.primary.items c.copy_size-count.ensures
    c.primary.ensures (λ i. image) (c.in_ok-primary.ensures.front t) in
    let second =
    placed geometry.max _ _ image (g.D.Disk.seen c.read_front.new.d) _ _
    c.in_ok-backup.backup.items c.copy_size-count.ensures c.backup.ensures
    (c.in_ok-primary.ensures.reads.seen t) (c.in_ok-backup.ensures.front t) in
    if_ok_map c.choose.result _ _
    (λ l is. fronts_loaded geometry.max (primary_bytes geometry a.slot image)
    (backup_bytes geometry a.slot image) c.in_ok-primary.primary.items c.in_ok-backup.backup.items l
    first second is) c.choose.ensures.loaded

pub returns-clause-fits : goal.returns-clause-fits
returns-clause-fits g c =
    if_ok_map c.choose.result _ _ (λ l is. loaded_fits c.args.geometry.now.max _ _ l is)
    c.choose.ensures.loaded
