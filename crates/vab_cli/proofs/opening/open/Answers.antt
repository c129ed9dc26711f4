use Rattle.std.proofs.Common.{◌≡◌, ◌≢◌, ◌∙◌, inl, inr, ⊎_elim, sym, subst, rules}
use Rattle.vab_disk.proofs.CallLaws.{changes_touches, changes_then, changes_telling}
use Rattle.vab_device.proofs.ReadingLaws.{device_stands}
use Rattle.vab_cli.specs.declared.status.Status.TheVariants.{NotADevice}
use Rattle.vab_cli.specs.Runs.{IsEarly}
use Rattle.vab_cli.proofs.Makings.{refused_told, refused_unheard}
use Rattle.vab_cli.proofs.Causing.{memory_held, none_held}
use Rattle.vab_cli.proofs.Running.{contents_of, early_of, fails_before, is_one, memory_other}
use Rattle.vab_cli.proofs.Running.{not_of_disk_by}
use Rattle.vab_cli.proofs.opening.open.Goals as goal

pub returns-in-Ok-clause-opens : goal.returns-in-Ok-clause-opens
returns-in-Ok-clause-opens g c = λ t. record {
  told = c.start.ensures.quiet.told t;
  left = c.start.ensures.quiet.left t;
  heard = c.start.ensures.quiet.heard t;
  device = device_stands c.in-Ok.device _ _ (c.in-Ok.ensures.represents t)
      ∙ sym (c.in-Ok.ensures.device t);
  settled = c.in-Ok.ensures.settled t;
  time = c.start.ensures.time t;
}

pub returns-in-Ok-clause-changes : goal.returns-in-Ok-clause-changes
returns-in-Ok-clause-changes g c = λ t.
    changes_touches g.P.Disk _ _ _ (c.start.ensures.touches t)

pub returns-then-ne-clause-changes : goal.returns-then-ne-clause-changes
returns-then-ne-clause-changes g c = λ t.
    changes_touches g.P.Disk _ _ _ (c.start.ensures.touches t)

pub returns-then-ne-clause-early : goal.returns-then-ne-clause-early
returns-then-ne-clause-early g c = λ t s stands.
    let other : c.from-status.result ≢ NotADevice = search rules in
    let early : IsEarly c.from-status.result =
    subst IsEarly (sym c.from-status.ensures)
    (early_of c.in-Err.fault (λ is. other (c.from-status.ensures ∙ is))) in
    fails_before g.P.Disk g.met.P.Disk.only_now _ s c.args.port.now c.start.new.d
    c.from-status.result t
    stands early (c.start.ensures.quiet.told t)
    (λ memory.
    c.in-Err.ensures.unwritten
    (not_of_disk_by c.in-Err.fault (memory_other (sym c.from-status.ensures ∙ memory))))
    (c.start.ensures.time t)

pub returns-then-ne-clause-none : goal.returns-then-ne-clause-none
returns-then-ne-clause-none g c = λ t fault none.
    let other : c.from-status.result ≢ NotADevice = search rules in
    let early : IsEarly c.from-status.result =
    subst IsEarly (sym c.from-status.ensures)
    (early_of c.in-Err.fault (λ is. other (c.from-status.ensures ∙ is))) in
    let reads = c.start.ensures.none t fault none in
    refused_unheard g.P.Disk g.met.P.Disk.only_now (g.P.Disk.size c.args.port.now)
    c.args.line.now NotADevice c.args.port.now c.start.new.d c.from-status.result
    (c.start.ensures.quiet.told t) (reads.seen t) (reads.time t) (λ memory. cc)
    (λ fails. absurd (none_held fails))
    (inr (⊎_elim (λ disk. inl (inl disk)) (λ memory. inr memory) early))

-- a disk that is a device isn't told to be none
pub returns-clause-early : goal.returns-clause-early
returns-clause-early g c = λ t s stands.
    let is : c.from-status.result ≡ NotADevice = search rules in
    is_one (g.P.Disk.size c.args.port.now) s (g.P.Disk.seen c.args.port.now) c.in-Err.fault stands
    (c.in-Err.ensures.fault t (contents_of c.in-Err.fault (sym c.from-status.ensures ∙ is)))

pub returns-clause-none : goal.returns-clause-none
returns-clause-none g c = λ t fault none.
    let reads = c.start.ensures.none t fault none in
    refused_told g.P.Disk g.met.P.Disk.only_now (g.P.Disk.size c.args.port.now)
    c.args.line.now NotADevice c.args.port.now c.start.new.d c.tell.new.port c.tell.result
    (c.start.ensures.quiet.told t) (reads.seen t) (reads.crash t) (reads.time t) (λ memory. cc)
    memory_held
    (⊎_elim (λ none. inl none) (λ port. inr (inr port)) c.tell.ensures.either)
    (c.tell.ensures.tells t)

pub returns-clause-changes : goal.returns-clause-changes
returns-clause-changes g c = λ t.
    let tells = c.tell.ensures.tells t in
    changes_then g.P.Disk _ c.args.port.now c.start.new.d c.tell.new.port
    (changes_touches g.P.Disk _ _ _ (c.start.ensures.touches t))
    (changes_telling g.P.Disk _ _ c.start.new.d c.tell.new.port c.tell.ensures.size
    (λ t. tells.seen) (λ t. tells.crash) (λ t. tells.time))

pub returns-clause-unopened : goal.returns-clause-unopened
returns-clause-unopened g c = λ t none.
    let is : c.from-status.result ≡ NotADevice = search rules in
    record {
      fault = c.in-Err.fault;
      is = c.note_opening.ensures;
      holds = c.in-Err.ensures.fault t
          (contents_of c.in-Err.fault (sym c.from-status.ensures ∙ is));
    }
