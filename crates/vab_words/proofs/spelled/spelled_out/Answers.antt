use Rattle.vab_words.proofs.FirstWord.{first, other}
use Rattle.vab_words.proofs.Literals as spelled
use Rattle.vab_words.proofs.spelled.spelled_out.Goals as goal

pub returns : goal.returns
returns c = record {
  make = spelled.make;
  make_limit = spelled.make_limit;
  make_metadata_max = spelled.make_metadata_max;
  make_both = spelled.make_both;
  adopt = spelled.adopt;
  serve = spelled.serve;
  serve_fresh = spelled.serve_fresh;
  serve_turns = spelled.serve_turns;
  serve_fresh_turns = spelled.serve_fresh_turns;
  install = spelled.install;
  boot = spelled.boot;
  mark = spelled.mark;
  begin_merge = spelled.begin_merge;
  merge = spelled.merge;
  merge_five = spelled.merge_five;
  cancel = spelled.cancel;
  activate = spelled.activate;
  print = spelled.print;
  digest = spelled.digest;
  status = spelled.status;
  demo = spelled.demo;
  demo_scale = spelled.demo_scale;
  print_any = spelled.print_any;
  digest_any = spelled.digest_any;
  nothing = spelled.nothing;
  other = other;
  first = first;
}
