use Rattle.program_choice.proofs.running.run_program.Goals as goal

pub returns-clause-run : goal.returns-clause-run
returns-clause-run g c =
    let did = c.run-status.ensures in
    record {
      usage = did.usage;
      usage_no_memory = did.usage_no_memory;
      unread = did.unread;
      unkept = did.unkept;
      batch_stopped = did.batch_stopped;
      import_stopped = did.import_stopped;
      assess = did.assess;
      told = did.told;
      read_fault = did.read_fault;
      taken_at_fault = did.taken_at_fault;
      no_memory = did.no_memory;
      batch = did.batch;
      report = did.report;
      import = did.import;
      make = did.make;
      make_unread = did.make_unread;
      make_no_memory = did.make_no_memory;
      trial = did.trial;
      trial_unread = did.trial_unread;
      trial_no_memory = did.trial_no_memory;
    }
