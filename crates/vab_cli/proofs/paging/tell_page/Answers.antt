use Rattle.std.proofs.Common.{◌≡◌, ◌∙◌, inl, inr, ℕ, List, Ok, Err, refl, sym, ap, subst, ◌<◌}
use Rattle.vab_disk.proofs.CallLaws.{changes_then, changes_telling}
use Rattle.vab_device.specs.Mounted.{Mounted, state_on}
use Rattle.vab_status.specs.Page.{page}
use Rattle.vab_recover.specs.Opening.{IsOfOpening}
use Rattle.vab_cli.specs.declared.status.Status.{Status}
use Rattle.vab_cli.specs.declared.status.Status.TheVariants.{Done, Port, NoMemory}
use Rattle.vab_cli.specs.Paging.{page_item}
use Rattle.vab_cli.specs.Telling.{Says}
use Rattle.vab_cli.proofs.InputFaults.{short_before}
use Rattle.vab_cli.proofs.Items.{mounted_is, does_line}
use Rattle.vab_cli.proofs.Lines.{not_failed}
use Rattle.vab_cli.proofs.Running.{same_opened, opened_in, runs_done, runs_failed}
use Rattle.vab_commands.proofs.CopiesLaws.{both_copies, copies_stay}
use Rattle.vab_cli.proofs.CopiesLeft.{early_unanswered}
use Rattle.vab_cli.proofs.paging.tell_page.Goals as goal

pub returns-in-Err-clause-tells : goal.returns-in-Err-clause-tells
returns-in-Err-clause-tells g c = record {
  runs = λ t. record {
    opened = λ s stands. inr (inr (c.in-Err.ensures.early t s stands));
    none = λ fault none. c.in-Err.ensures.none t fault none;
  };
  quiet = λ t. c.open.ensures.quiet t;
  touches = λ t. c.open.ensures.changes t;
}

pub returns-in-Err-status_page-clause-tells : goal.returns-in-Err-status_page-clause-tells
returns-in-Err-status_page-clause-tells g c =
    let old = c.args.port.now in
    let mid = c.open.new.port in
    record {
      runs = λ t. record {
        opened = λ s stands. short_before g.P.Disk g.met.P.Disk.only_now old mid s stands
            (same_opened g.P.Disk (g.P.Disk.size old) old mid (c.in-Ok.ensures.opens t))
            (page_item s) (inl refl) (inr (λ image at. at)) Done NoMemory refl;
        none = λ fault none. absurd (c.in-Ok.ensures.found t fault none);
      };
      quiet = λ t. c.open.ensures.quiet t;
      touches = λ t. c.open.ensures.changes t;
    }

pub returns-in-Ok-say_all-clause-tells : goal.returns-in-Ok-say_all-clause-tells
returns-in-Ok-say_all-clause-tells g c =
    let old = c.args.port.now in
    let mid = c.open.new.port in
    let new = c.say_all.new.p in
    let size = g.P.Disk.size old in
    let image = g.P.Disk.seen mid in
    let d = c.in-Ok.device in
    let text : c.deref.result.now ≡ page (state_on d image) =
    c.deref.ensures.value
    ∙ c.in-Ok-status_page.ensures size image c.in-Ok.ensures.kept
    (λ s lt.
    (g.met.P.Disk.whole mid s (image s)
    (subst (λ (n : ℕ). s < n) (sym c.open.ensures.size) lt)
    (g.met.P.Disk.seen_held mid s)).long) in
    record {
      runs = λ t. record {
        opened = λ s stands. let opens = c.in-Ok.ensures.opens t in
            let here = opened_in g.P.Disk g.met.P.Disk.only_now size old mid s opens stands in
            let is : c.deref.result.now ≡ page s.state =
            text
            ∙ ap (λ (m : Mounted). page m.state)
            (mounted_is d size image s (c.in-Ok.ensures.represents t) here) in
            inl (runs_done g.P.Disk g.met.P.Disk.only_now size s (page_item s) (inl refl)
            (inr (λ image at. at)) Done old mid new (same_opened g.P.Disk size old mid opens) stands
            Done refl
            (does_line g.P.Disk size s (page s.state) mid new (Ok Done) here
            (subst
            (λ (l : List ℕ). Says g.P.Disk {A = Status} {E = Status} l mid new (Ok Done)) is
            (record {
              told = c.in-Ok-say_all.ensures.told t;
              front = c.say_all.ensures.front t;
              seen = c.say_all.ensures.seen t;
              crash = c.say_all.ensures.crash t;
              left = c.say_all.ensures.left t;
              heard = c.say_all.ensures.heard t;
              time = c.say_all.ensures.time t;
            }))));
        none = λ fault none. absurd (c.in-Ok.ensures.found t fault none);
      };
      quiet = λ t. record {
        left = c.say_all.ensures.left t ∙ (c.open.ensures.quiet t).left;
        heard = c.say_all.ensures.heard t ∙ (c.open.ensures.quiet t).heard;
      };
      touches = λ t.
          changes_then g.P.Disk (IsOfOpening size (g.P.Disk.seen old)) old mid new
          (c.open.ensures.changes t)
          (changes_telling g.P.Disk _ _ mid new c.say_all.ensures.size
          c.say_all.ensures.seen c.say_all.ensures.crash c.say_all.ensures.time);
    }

pub returns-clause-tells : goal.returns-clause-tells
returns-clause-tells g c =
    let old = c.args.port.now in
    let mid = c.open.new.port in
    let new = c.say_all.new.p in
    let size = g.P.Disk.size old in
    let image = g.P.Disk.seen mid in
    let d = c.in-Ok.device in
    let text : c.deref.result.now ≡ page (state_on d image) =
    c.deref.ensures.value
    ∙ c.in-Ok-status_page.ensures size image c.in-Ok.ensures.kept
    (λ s lt.
    (g.met.P.Disk.whole mid s (image s)
    (subst (λ (n : ℕ). s < n) (sym c.open.ensures.size) lt)
    (g.met.P.Disk.seen_held mid s)).long) in
    record {
      runs = λ t. record {
        opened = λ s stands. let opens = c.in-Ok.ensures.opens t in
            let here = opened_in g.P.Disk g.met.P.Disk.only_now size old mid s opens stands in
            let is : c.deref.result.now ≡ page s.state =
            text
            ∙ ap (λ (m : Mounted). page m.state)
            (mounted_is d size image s (c.in-Ok.ensures.represents t) here) in
            inl (runs_failed g.P.Disk g.met.P.Disk.only_now size s (page_item s) (inl refl)
            (inr (λ image at. at)) Done old mid new (same_opened g.P.Disk size old mid opens) stands
            Port (inr refl) (not_failed Done tt)
            (does_line g.P.Disk size s (page s.state) mid new (Err Port) here
            (subst
            (λ (l : List ℕ). Says g.P.Disk {A = Status} {E = Status} l mid new (Err Port)) is
            (record {
              told = tt;
              front = c.say_all.ensures.front t;
              seen = c.say_all.ensures.seen t;
              crash = c.say_all.ensures.crash t;
              left = c.say_all.ensures.left t;
              heard = c.say_all.ensures.heard t;
              time = c.say_all.ensures.time t;
            }))));
        none = λ fault none. absurd (c.in-Ok.ensures.found t fault none);
      };
      quiet = λ t. record {
        left = c.say_all.ensures.left t ∙ (c.open.ensures.quiet t).left;
        heard = c.say_all.ensures.heard t ∙ (c.open.ensures.quiet t).heard;
      };
      touches = λ t.
          changes_then g.P.Disk (IsOfOpening size (g.P.Disk.seen old)) old mid new
          (c.open.ensures.changes t)
          (changes_telling g.P.Disk _ _ mid new c.say_all.ensures.size
          c.say_all.ensures.seen c.say_all.ensures.crash c.say_all.ensures.time);
    }

pub returns-in-Err-clause-copies : goal.returns-in-Err-clause-copies
returns-in-Err-clause-copies g c = λ t s stands answers.
    absurd
    ((let fails = c.in-Err.ensures.early t s stands in
    early_unanswered c.in-Err.status fails.early) answers)

pub returns-in-Err-status_page-clause-copies : goal.returns-in-Err-status_page-clause-copies
returns-in-Err-status_page-clause-copies g c = λ t s stands answers.
    absurd answers

pub returns-in-Ok-say_all-clause-copies : goal.returns-in-Ok-say_all-clause-copies
returns-in-Ok-say_all-clause-copies g c = λ t s stands answers.
    copies_stay (g.P.Disk.size c.args.port.now) (g.P.Disk.seen c.open.new.port)
    (g.P.Disk.seen c.say_all.new.p) (c.say_all.ensures.seen t)
    (both_copies c.in-Ok.device _ _ (c.in-Ok.ensures.represents t))

pub returns-clause-copies : goal.returns-clause-copies
returns-clause-copies g c = λ t s stands answers.
    absurd answers
