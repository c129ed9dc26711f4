use Rattle.std.proofs.Common.{◌≡◌, ◌≢◌, ◌∷◌, [], Ok, Err, ⊎_elim, refl, sym, subst, rules}
use Rattle.vab_cli.specs.declared.status.Status.{Status}
use Rattle.vab_cli.specs.declared.status.Status.TheVariants.{Done, Port}
use Rattle.vab_cli.specs.Acts.{DoesActs, line_act}
use Rattle.vab_cli.specs.Verbs.{done_making}
use Rattle.vab_cli.proofs.ActsWritten.{line_alone}
use Rattle.vab_cli.proofs.Lives.{line_closed, line_broken}
use Rattle.vab_cli.proofs.demo.begin_life.Goals as goal

pub returns-in-Done : goal.returns-in-Done
returns-in-Done g c =
    let done : c.tell_made.result ≡ Done = search rules in
    let line = done_making c.args.set.now (g.P.Disk.size c.args.port.now) in
    let old = c.args.port.now in
    let new = c.tell_made.new.port in
    record {
      performs =
          line_closed g.P.Disk c.args.device line old new c.requires.represents
          c.tell_made.ensures.size c.requires.kept c.tell_made.result done
          c.tell_made.ensures.tells c.tell_made.ensures.steady;
      writes = λ t.
          let tells = c.tell_made.ensures.tells t in
          record {
            all = line_alone g.P.Disk c.args.device old new line tells.seen tells.time;
            done = (refl, tells.seen);
          };
    }

pub returns-in_default : goal.returns-in_default
returns-in_default g c =
    let other : c.tell_made.result ≢ Done = search rules in
    let is : c.tell_made.result ≡ Port =
    ⊎_elim (λ done. absurd (other done)) (λ port. port) c.tell_made.ensures.either in
    let line = done_making c.args.set.now (g.P.Disk.size c.args.port.now) in
    let old = c.args.port.now in
    let new = c.tell_made.new.port in
    subst
    (λ (s : Status). DoesActs g.P.Disk c.args.device (line_act line ∷ []) [] old new (Err s))
    (sym is)
    (record {
      performs =
          line_broken g.P.Disk c.args.device line old new c.requires.represents
          c.tell_made.ensures.size c.tell_made.result c.tell_made.ensures.tells
          (c.tell_made.ensures.port other);
      writes = λ t.
          let tells = c.tell_made.ensures.tells t in
          record {
            all = line_alone g.P.Disk c.args.device old new line tells.seen tells.time;
            done = tt;
          };
    })
