-- What the words of the program mean on the contents at entry.
use Rattle.std.specs.Prelude.{ℕ, ◌≡◌, ◌⊎◌, List, Option, Some, None}
use Rattle.pf_io.specs.Store.{Files}
use Rattle.run_model.specs.declared.fault.Fault.{Fault}
use Rattle.command_line.specs.declared.command.Command.{Command}
use Rattle.command_line.specs.declared.command.Command.TheVariants as commands
use Rattle.command_line.specs.Words.{command_of}
use Rattle.command_frame.specs.Verdict.{Verdict, stops, AtLeastOne, AtMostOne}
use Rattle.command_frame.specs.declared.status.Status.TheVariants.{Usage, Memory}
use Rattle.top_call.specs.declared.status.Refusal.{Refusal}
use Rattle.top_call.specs.Bench.{BenchMeans, EndsBench}
use Rattle.top_call.specs.Run.{Ending, EndsRun, RunMeans}

-- each command
abbrev pub CommandMeans : Option (Command (List ℕ)) → Files → Verdict Refusal Fault → Type 0
CommandMeans None files verdict = verdict ≡ stops Usage
CommandMeans (Some (commands.Run name workers)) files verdict = RunMeans name files verdict
CommandMeans (Some (commands.Bench count seed workers)) files verdict = BenchMeans count seed files verdict

-- the words
abbrev pub WordsMean : List (List ℕ) → Files → Verdict Refusal Fault → Type 0
WordsMean words files verdict = CommandMeans (command_of words) files verdict

-- the statuses that each command may end with
abbrev pub EndsCommand : Option (Command (List ℕ)) → Ending → Type 0
EndsCommand None status = (status ≡ Usage) ⊎ (status ≡ Memory)
EndsCommand (Some (commands.Run name workers)) status = EndsRun status
EndsCommand (Some (commands.Bench count seed workers)) status = EndsBench status

abbrev pub EndsWords : List (List ℕ) → Ending → Type 0
EndsWords words status = EndsCommand (command_of words) status

-- words have at most one verdict
abbrev pub OneVerdict : Type 0
OneVerdict = (words : List (List ℕ)) (files : Files) → AtMostOne (WordsMean words files)

-- and they have one
abbrev pub SomeVerdict : Type 0
SomeVerdict = (words : List (List ℕ)) (files : Files) → AtLeastOne (WordsMean words files)
