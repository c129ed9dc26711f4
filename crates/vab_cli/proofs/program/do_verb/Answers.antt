use Rattle.std.proofs.Common.{◌≡◌, inr, refl, subst, sym, true, false, rules}
use Rattle.vab_model.specs.Commands.{SetActive, Boot, Mark, Print, Digest, Cancel, BeginMerge}
use Rattle.vab_model.specs.Commands.{Merge}
use Rattle.vab_words.specs.Verbs.{Meaning, Serve, meaning_of}
use Rattle.vab_words.specs.Verbs as words
use Rattle.vab_cli.specs.declared.status.Status.TheVariants.{Done}
use Rattle.vab_cli.specs.Causes.{Explains}
use Rattle.vab_cli.specs.Installing.{install_item, install_status}
use Rattle.vab_cli.specs.Paging.{page_item}
use Rattle.vab_cli.specs.Program.{DoesVerb}
use Rattle.vab_cli.proofs.Programs.{keeps_command, command_whole, session_whole, fresh_whole}
use Rattle.vab_cli.proofs.Programs.{told_whole, acts_whole}
use Rattle.vab_cli.proofs.program.do_verb.Goals as goal

pub returns-in-Boot-clause-does : goal.returns-in-Boot-clause-does
returns-in-Boot-clause-does g c =
    let is : meaning_of c.args.verb ≡ words.Boot = search rules in
    let done = c.run_command.ensures in
    let old = c.args.port.now in
    let new = c.run_command.new.port in
    let status = c.run_command.result in
    subst (λ (m : Meaning). DoesVerb g.P.Disk m old new status) (sym is)
    (record {
      runs = λ t. record { opened = done.runs t; none = done.none t };
      writes = λ t. done.changes t;
      keeps = λ t.
          keeps_command g.P.Disk old new status done.disk
          (λ port. inr (done.port port)) Boot refl (done.runs t);
      hears = λ t. done.quiet t;
      copies = λ t. done.copies t;
      complete = λ t.
          command_whole g.P.Disk old new status done.disk
          (λ port. inr (done.port port)) Boot (done.runs t);
      sizes = tt;
      disk = done.disk;
      port = λ port. inr (done.port port);
      steady = done.steady;
      words = done.words;
    })

pub returns-in-Mark-clause-does : goal.returns-in-Mark-clause-does
returns-in-Mark-clause-does g c =
    let is : meaning_of c.args.verb ≡ words.Mark = search rules in
    let done = c.run_command-in-Mark.ensures in
    let old = c.args.port.now in
    let new = c.run_command-in-Mark.new.port in
    let status = c.run_command-in-Mark.result in
    subst (λ (m : Meaning). DoesVerb g.P.Disk m old new status) (sym is)
    (record {
      runs = λ t. record { opened = done.runs t; none = done.none t };
      writes = λ t. done.changes t;
      keeps = λ t.
          keeps_command g.P.Disk old new status done.disk
          (λ port. inr (done.port port)) Mark refl (done.runs t);
      hears = λ t. done.quiet t;
      copies = λ t. done.copies t;
      complete = λ t.
          command_whole g.P.Disk old new status done.disk
          (λ port. inr (done.port port)) Mark (done.runs t);
      sizes = tt;
      disk = done.disk;
      port = λ port. inr (done.port port);
      steady = done.steady;
      words = done.words;
    })

pub returns-in-BeginMerge-clause-does : goal.returns-in-BeginMerge-clause-does
returns-in-BeginMerge-clause-does g c =
    let is : meaning_of c.args.verb ≡ words.BeginMerge = search rules in
    let done = c.run_command-in-BeginMerge.ensures in
    let old = c.args.port.now in
    let new = c.run_command-in-BeginMerge.new.port in
    let status = c.run_command-in-BeginMerge.result in
    subst (λ (m : Meaning). DoesVerb g.P.Disk m old new status) (sym is)
    (record {
      runs = λ t. record { opened = done.runs t; none = done.none t };
      writes = λ t. done.changes t;
      keeps = λ t.
          keeps_command g.P.Disk old new status done.disk
          (λ port. inr (done.port port)) BeginMerge refl (done.runs t);
      hears = λ t. done.quiet t;
      copies = λ t. done.copies t;
      complete = λ t.
          command_whole g.P.Disk old new status done.disk
          (λ port. inr (done.port port)) BeginMerge (done.runs t);
      sizes = tt;
      disk = done.disk;
      port = λ port. inr (done.port port);
      steady = done.steady;
      words = done.words;
    })

pub returns-in-Merge-clause-does : goal.returns-in-Merge-clause-does
returns-in-Merge-clause-does g c =
    let is : meaning_of c.args.verb ≡ words.Merge c.in-Merge.turns = search rules in
    let done = c.run_command-in-Merge.ensures in
    let old = c.args.port.now in
    let new = c.run_command-in-Merge.new.port in
    let status = c.run_command-in-Merge.result in
    subst (λ (m : Meaning). DoesVerb g.P.Disk m old new status) (sym is)
    (record {
      runs = λ t. record { opened = done.runs t; none = done.none t };
      writes = λ t. done.changes t;
      keeps = λ t.
          keeps_command g.P.Disk old new status done.disk
          (λ port. inr (done.port port)) (Merge c.in-Merge.turns) refl (done.runs t);
      hears = λ t. done.quiet t;
      copies = λ t. done.copies t;
      complete = λ t.
          command_whole g.P.Disk old new status done.disk
          (λ port. inr (done.port port)) (Merge c.in-Merge.turns) (done.runs t);
      sizes = tt;
      disk = done.disk;
      port = λ port. inr (done.port port);
      steady = done.steady;
      words = done.words;
    })

pub returns-in-Cancel-clause-does : goal.returns-in-Cancel-clause-does
returns-in-Cancel-clause-does g c =
    let is : meaning_of c.args.verb ≡ words.Cancel = search rules in
    let done = c.run_command-in-Cancel.ensures in
    let old = c.args.port.now in
    let new = c.run_command-in-Cancel.new.port in
    let status = c.run_command-in-Cancel.result in
    subst (λ (m : Meaning). DoesVerb g.P.Disk m old new status) (sym is)
    (record {
      runs = λ t. record { opened = done.runs t; none = done.none t };
      writes = λ t. done.changes t;
      keeps = λ t.
          keeps_command g.P.Disk old new status done.disk
          (λ port. inr (done.port port)) Cancel refl (done.runs t);
      hears = λ t. done.quiet t;
      copies = λ t. done.copies t;
      complete = λ t.
          command_whole g.P.Disk old new status done.disk
          (λ port. inr (done.port port)) Cancel (done.runs t);
      sizes = tt;
      disk = done.disk;
      port = λ port. inr (done.port port);
      steady = done.steady;
      words = done.words;
    })

pub returns-in-Activate-clause-does : goal.returns-in-Activate-clause-does
returns-in-Activate-clause-does g c =
    let is : meaning_of c.args.verb ≡ words.Activate c.in-Activate.slot = search rules in
    let done = c.run_command-in-Activate.ensures in
    let old = c.args.port.now in
    let new = c.run_command-in-Activate.new.port in
    let status = c.run_command-in-Activate.result in
    subst (λ (m : Meaning). DoesVerb g.P.Disk m old new status) (sym is)
    (record {
      runs = λ t. record { opened = done.runs t; none = done.none t };
      writes = λ t. done.changes t;
      keeps = λ t.
          keeps_command g.P.Disk old new status done.disk
          (λ port. inr (done.port port)) (SetActive c.in-Activate.slot) refl (done.runs t);
      hears = λ t. done.quiet t;
      copies = λ t. done.copies t;
      complete = λ t.
          command_whole g.P.Disk old new status done.disk
          (λ port. inr (done.port port)) (SetActive c.in-Activate.slot) (done.runs t);
      sizes = tt;
      disk = done.disk;
      port = λ port. inr (done.port port);
      steady = done.steady;
      words = done.words;
    })

pub returns-in-Print-clause-does : goal.returns-in-Print-clause-does
returns-in-Print-clause-does g c =
    let is : meaning_of c.args.verb ≡ words.Print c.as_bytes.result.now = search rules in
    let done = c.print.ensures in
    let old = c.args.port.now in
    let new = c.print.new.port in
    let status = c.print.result in
    subst (λ (m : Meaning). DoesVerb g.P.Disk m old new status) (sym is)
    (record {
      runs = λ t. record { opened = done.runs t; none = done.none t };
      writes = λ t. done.changes t;
      keeps = λ t.
          keeps_command g.P.Disk old new status done.disk
          (λ port. inr (done.port port)) (Print c.as_bytes.result.now) refl (done.runs t);
      hears = λ t. done.quiet t;
      copies = λ t. done.copies t;
      complete = λ t.
          command_whole g.P.Disk old new status done.disk
          (λ port. inr (done.port port)) (Print c.as_bytes.result.now) (done.runs t);
      sizes = tt;
      disk = done.disk;
      port = λ port. inr (done.port port);
      steady = done.steady;
      words = done.words;
    })

pub returns-in-Digest-clause-does : goal.returns-in-Digest-clause-does
returns-in-Digest-clause-does g c =
    let is : meaning_of c.args.verb ≡ words.Digest c.as_bytes-in-Digest.result.now =
    search rules in
    let done = c.run_command-in-Digest.ensures in
    let old = c.args.port.now in
    let new = c.run_command-in-Digest.new.port in
    let status = c.run_command-in-Digest.result in
    subst (λ (m : Meaning). DoesVerb g.P.Disk m old new status) (sym is)
    (record {
      runs = λ t. record { opened = done.runs t; none = done.none t };
      writes = λ t. done.changes t;
      keeps = λ t.
          keeps_command g.P.Disk old new status done.disk (λ port. inr (done.port port))
          (Digest c.as_bytes-in-Digest.result.now) refl (done.runs t);
      hears = λ t. done.quiet t;
      copies = λ t. done.copies t;
      complete = λ t.
          command_whole g.P.Disk old new status done.disk
          (λ port. inr (done.port port)) (Digest c.as_bytes-in-Digest.result.now) (done.runs t);
      sizes = tt;
      disk = done.disk;
      port = λ port. inr (done.port port);
      steady = done.steady;
      words = done.words;
    })

pub returns-then-fresh-clause-does : goal.returns-then-fresh-clause-does
returns-then-fresh-clause-does g c =
    let is : meaning_of c.args.verb ≡ Serve true c.in-Serve.turns =
    search (rules, c.if-fresh.true) in
    let done = c.make_and_serve.ensures in
    let old = c.args.port.now in
    let new = c.make_and_serve.new.port in
    let status = c.make_and_serve.result in
    subst (λ (m : Meaning). DoesVerb g.P.Disk m old new status) (sym is)
    (record {
      runs = λ t. record { enough = done.runs t; small = done.small t };
      writes = λ t. record {
        touches = done.changes t;
        spared = done.spared t;
        in_turn = done.writes t;
      };
      keeps = λ t. tt;
      hears = λ t. tt;
      copies = λ t. done.copies t;
      complete = λ t held enough.
          fresh_whole g.P.Disk old new status done.disk done.port
          held (done.runs t enough);
      sizes = done.too_small;
      disk = done.disk;
      port = done.port;
      steady = done.steady;
      words = done.words;
    })

pub returns-else-fresh-clause-does : goal.returns-else-fresh-clause-does
returns-else-fresh-clause-does g c =
    let is : meaning_of c.args.verb ≡ Serve false c.in-Serve.turns =
    search (rules, c.if-fresh.false) in
    let done = c.open_and_serve.ensures in
    let old = c.args.port.now in
    let new = c.open_and_serve.new.port in
    let status = c.open_and_serve.result in
    subst (λ (m : Meaning). DoesVerb g.P.Disk m old new status) (sym is)
    (record {
      runs = λ t. record { opened = done.runs t; none = done.none t };
      writes = λ t s stands. record {
        touches = done.changes t s stands;
        spared = done.spared t s stands;
        in_turn = done.writes t s stands;
      };
      keeps = λ t. tt;
      hears = λ t. done.unheard t;
      copies = λ t. done.copies t;
      complete = λ t held s stands.
          session_whole g.P.Disk old new status done.disk done.port
          held (done.runs t s stands);
      sizes = tt;
      disk = done.disk;
      port = done.port;
      steady = done.steady;
      words = done.words;
    })

pub returns-in-Install-clause-does : goal.returns-in-Install-clause-does
returns-in-Install-clause-does g c =
    let is : meaning_of c.args.verb ≡ words.Install = search rules in
    let done = c.install.ensures in
    let old = c.args.port.now in
    let new = c.install.new.port in
    let status = c.install.result in
    subst (λ (m : Meaning). DoesVerb g.P.Disk m old new status) (sym is)
    (record {
      runs = done.runs.runs;
      writes = done.runs.writes;
      keeps = λ t. tt;
      hears = done.runs.hears;
      copies = λ t. done.copies t;
      complete = λ t held set fits spelled s stands.
          told_whole g.P.Disk old new status done.disk done.port
          s (install_item s set) (install_status s set) held
          (((done.runs.runs t).opened s stands).item set fits spelled);
      sizes = tt;
      disk = done.disk;
      port = done.port;
      steady = done.steady;
      words = done.words;
    })

pub returns-in-Status-clause-does : goal.returns-in-Status-clause-does
returns-in-Status-clause-does g c =
    let is : meaning_of c.args.verb ≡ words.Status = search rules in
    let done = c.tell_page.ensures in
    let old = c.args.port.now in
    let new = c.tell_page.new.port in
    let status = c.tell_page.result in
    subst (λ (m : Meaning). DoesVerb g.P.Disk m old new status) (sym is)
    (record {
      runs = done.tells.runs;
      writes = done.tells.touches;
      keeps = λ t. tt;
      hears = done.tells.quiet;
      copies = λ t. done.copies t;
      complete = λ t held s stands.
          told_whole g.P.Disk old new status done.disk
          (λ port. inr (done.port port)) s (page_item s) Done held
          ((done.tells.runs t).opened s stands);
      sizes = tt;
      disk = done.disk;
      port = λ port. inr (done.port port);
      steady = done.steady;
      words = done.words;
    })

pub returns-in-Demo-clause-does : goal.returns-in-Demo-clause-does
returns-in-Demo-clause-does g c =
    let is : meaning_of c.args.verb ≡ words.Demo c.in-Demo.seed c.in-Demo.scale = search rules in
    let done = c.demo.ensures in
    let old = c.args.port.now in
    let new = c.demo.new.port in
    let status = c.demo.result in
    subst (λ (m : Meaning). DoesVerb g.P.Disk m old new status) (sym is)
    (record {
      runs = done.does.runs;
      writes = done.does.writes;
      keeps = λ t. tt;
      hears = done.does.quiet;
      copies = λ t. done.copies t;
      complete = λ t held none.
          acts_whole g.P.Disk old new status done.disk
          (λ port. inr (done.port port)) held ((done.does.runs t).lives none);
      sizes = done.does.small;
      disk = done.disk;
      port = λ port. inr (done.port port);
      steady = done.steady;
      words = done.words;
    })

pub returns-in-Adopt-clause-does : goal.returns-in-Adopt-clause-does
returns-in-Adopt-clause-does g c =
    let is : meaning_of c.args.verb ≡ words.Adopt c.in-Adopt.slot = search rules in
    let done = c.adopt.ensures in
    let old = c.args.port.now in
    let new = c.adopt.new.port in
    let status = c.adopt.result in
    subst (λ (m : Meaning). DoesVerb g.P.Disk m old new status) (sym is)
    (record {
      runs = λ t. record { adopts = done.adopts t; refused = done.refused t };
      writes = done.changes;
      keeps = λ t. tt;
      hears = done.quiet;
      copies = λ t. tt;
      complete = λ t held. tt;
      sizes = tt;
      disk = done.disk;
      port = λ port. inr (done.port port);
      steady = done.steady;
      words = done.words;
    })

pub returns-in-Make-clause-does : goal.returns-in-Make-clause-does
returns-in-Make-clause-does g c =
    let is : meaning_of c.args.verb ≡ words.Make c.in-Make.limit c.in-Make.metadata_max =
    search rules in
    let done = c.make.ensures in
    let old = c.args.port.now in
    let new = c.make.new.port in
    let status = c.make.result in
    subst (λ (m : Meaning). DoesVerb g.P.Disk m old new status) (sym is)
    (record {
      runs = λ t. record {
        made = done.made t;
        refused = done.refused t;
        malformed = done.malformed t;
      };
      writes = done.changes;
      keeps = λ t. tt;
      hears = λ t. record { heard = done.heard t; within = done.within t; end = done.end t };
      copies = λ t. tt;
      complete = λ t held. tt;
      sizes = done.small;
      disk = done.disk;
      port = done.port;
      steady = done.steady;
      words = done.words;
    })

pub returns-in-Boot-clause-explains : goal.returns-in-Boot-clause-explains
returns-in-Boot-clause-explains g c = λ t.
    let is : meaning_of c.args.verb ≡ words.Boot = search rules in
    subst
    (λ (m : Meaning).
    Explains g.P.Disk c.args.port.now m c.run_command.result
    c.run_command.new.cause)
    (sym is)
    (c.run_command.ensures.unopened t, c.run_command.ensures.refused t)

pub returns-in-Mark-clause-explains : goal.returns-in-Mark-clause-explains
returns-in-Mark-clause-explains g c = λ t.
    let is : meaning_of c.args.verb ≡ words.Mark = search rules in
    subst
    (λ (m : Meaning).
    Explains g.P.Disk c.args.port.now m c.run_command-in-Mark.result
    c.run_command-in-Mark.new.cause)
    (sym is)
    (c.run_command-in-Mark.ensures.unopened t, c.run_command-in-Mark.ensures.refused t)

pub returns-in-BeginMerge-clause-explains : goal.returns-in-BeginMerge-clause-explains
returns-in-BeginMerge-clause-explains g c = λ t.
    let is : meaning_of c.args.verb ≡ words.BeginMerge = search rules in
    subst
    (λ (m : Meaning).
    Explains g.P.Disk c.args.port.now m c.run_command-in-BeginMerge.result
    c.run_command-in-BeginMerge.new.cause)
    (sym is)
    (c.run_command-in-BeginMerge.ensures.unopened t, c.run_command-in-BeginMerge.ensures.refused t)

pub returns-in-Merge-clause-explains : goal.returns-in-Merge-clause-explains
returns-in-Merge-clause-explains g c = λ t.
    let is : meaning_of c.args.verb ≡ words.Merge c.in-Merge.turns = search rules in
    subst
    (λ (m : Meaning).
    Explains g.P.Disk c.args.port.now m c.run_command-in-Merge.result
    c.run_command-in-Merge.new.cause)
    (sym is)
    (c.run_command-in-Merge.ensures.unopened t, c.run_command-in-Merge.ensures.refused t)

pub returns-in-Cancel-clause-explains : goal.returns-in-Cancel-clause-explains
returns-in-Cancel-clause-explains g c = λ t.
    let is : meaning_of c.args.verb ≡ words.Cancel = search rules in
    subst
    (λ (m : Meaning).
    Explains g.P.Disk c.args.port.now m c.run_command-in-Cancel.result
    c.run_command-in-Cancel.new.cause)
    (sym is)
    (c.run_command-in-Cancel.ensures.unopened t, c.run_command-in-Cancel.ensures.refused t)

pub returns-in-Activate-clause-explains : goal.returns-in-Activate-clause-explains
returns-in-Activate-clause-explains g c = λ t.
    let is : meaning_of c.args.verb ≡ words.Activate c.in-Activate.slot = search rules in
    subst
    (λ (m : Meaning).
    Explains g.P.Disk c.args.port.now m c.run_command-in-Activate.result
    c.run_command-in-Activate.new.cause)
    (sym is)
    (c.run_command-in-Activate.ensures.unopened t, c.run_command-in-Activate.ensures.refused t)

pub returns-in-Print-clause-explains : goal.returns-in-Print-clause-explains
returns-in-Print-clause-explains g c = λ t.
    let is : meaning_of c.args.verb ≡ words.Print c.as_bytes.result.now = search rules in
    subst
    (λ (m : Meaning).
    Explains g.P.Disk c.args.port.now m c.print.result
    c.print.new.cause)
    (sym is)
    (c.print.ensures.unopened t, c.print.ensures.refused t)

pub returns-in-Digest-clause-explains : goal.returns-in-Digest-clause-explains
returns-in-Digest-clause-explains g c = λ t.
    let is : meaning_of c.args.verb ≡ words.Digest c.as_bytes-in-Digest.result.now =
    search rules in
    subst
    (λ (m : Meaning).
    Explains g.P.Disk c.args.port.now m c.run_command-in-Digest.result
    c.run_command-in-Digest.new.cause)
    (sym is)
    (c.run_command-in-Digest.ensures.unopened t, c.run_command-in-Digest.ensures.refused t)

pub returns-in-Make-clause-explains : goal.returns-in-Make-clause-explains
returns-in-Make-clause-explains g c = λ t.
    let is : meaning_of c.args.verb ≡ words.Make c.in-Make.limit c.in-Make.metadata_max =
    search rules in
    subst
    (λ (m : Meaning).
    Explains g.P.Disk c.args.port.now m c.make.result
    c.make.new.cause)
    (sym is)
    (c.make.ensures.unmade t, c.make.ensures.no_set t)

pub returns-in-Adopt-clause-explains : goal.returns-in-Adopt-clause-explains
returns-in-Adopt-clause-explains g c = λ t.
    let is : meaning_of c.args.verb ≡ words.Adopt c.in-Adopt.slot = search rules in
    subst
    (λ (m : Meaning).
    Explains g.P.Disk c.args.port.now m c.adopt.result
    c.adopt.new.cause)
    (sym is)
    (c.adopt.ensures.unadopted t, c.adopt.ensures.dropped t)

pub returns-then-fresh-clause-explains : goal.returns-then-fresh-clause-explains
returns-then-fresh-clause-explains g c = λ t.
    let is : meaning_of c.args.verb ≡ Serve true c.in-Serve.turns =
    search (rules, c.if-fresh.true) in
    subst
    (λ (m : Meaning).
    Explains g.P.Disk c.args.port.now m c.make_and_serve.result
    c.make_and_serve.new.cause)
    (sym is)
    (c.make_and_serve.ensures.unmade t, c.make_and_serve.ensures.broken_off t)

pub returns-else-fresh-clause-explains : goal.returns-else-fresh-clause-explains
returns-else-fresh-clause-explains g c = λ t.
    let is : meaning_of c.args.verb ≡ Serve false c.in-Serve.turns =
    search (rules, c.if-fresh.false) in
    subst
    (λ (m : Meaning).
    Explains g.P.Disk c.args.port.now m c.open_and_serve.result
    c.open_and_serve.new.cause)
    (sym is)
    (c.open_and_serve.ensures.unopened t, c.open_and_serve.ensures.broken_off t)

pub returns-in-Install-clause-explains : goal.returns-in-Install-clause-explains
returns-in-Install-clause-explains g c = λ t.
    let is : meaning_of c.args.verb ≡ words.Install = search rules in
    subst
    (λ (m : Meaning).
    Explains g.P.Disk c.args.port.now m c.install.result
    c.install.new.cause)
    (sym is) (
      c.install.ensures.unopened t,
      c.install.ensures.uninstalled t,
      c.install.ensures.no_set t,
    )

pub returns-in-Status-clause-explains : goal.returns-in-Status-clause-explains
returns-in-Status-clause-explains g c = λ t.
    let is : meaning_of c.args.verb ≡ words.Status = search rules in
    subst
    (λ (m : Meaning).
    Explains g.P.Disk c.args.port.now m c.tell_page.result
    c.tell_page.new.cause)
    (sym is)
    (c.tell_page.ensures.unopened t)

pub returns-in-Demo-clause-explains : goal.returns-in-Demo-clause-explains
returns-in-Demo-clause-explains g c = λ t.
    let is : meaning_of c.args.verb ≡ words.Demo c.in-Demo.seed c.in-Demo.scale = search rules in
    subst
    (λ (m : Meaning).
    Explains g.P.Disk c.args.port.now m c.demo.result
    c.demo.new.cause)
    (sym is)
    (c.demo.ensures.unmade t)
