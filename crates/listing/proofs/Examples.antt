-- Worked listings, computed: that of document 01's sample plan (P2), and one with every other kind of line. Assumes nothing.
use mathlib.Core.Bool.{true, false}
use mathlib.Core.List.{[], ◌∷◌, ◌++◌}
use mathlib.Core.Path.{◌≡◌, refl}
use lib.Dec.{eqb, leb}
use lib.IntN.{pos, negsuc}
use lib.ListN.{replicate}
use Rattle.node.specs.declared.Message.TheVariants.{Plain, Note, Down as DownMessage}
use Rattle.node.specs.declared.Signal.TheVariants.{Msg, Exit, Link, Unlink, Monitor, Demonitor, Down}
use Rattle.node.specs.declared.Value.TheVariants.{Int, Atom}
use Rattle.node.specs.Blocks.{changed, joined, left, popped}
use Rattle.node.specs.Mailboxes.{messages}
use Rattle.node.specs.Ops.{kinds_of}
use Rattle.node.specs.Processes.{register, with_register, moved, advanced, links_to}
use Rattle.node.specs.Sets.{bits_of, has}
use Rattle.node.specs.Rows.{signals, oldest}
use Rattle.node.specs.Values.{int_zero, normal, killed, noproc, pid, is_number, fits_int}
use Rattle.node.specs.Texts.{bytes}
use Rattle.rules.proofs.Sample.{op_of, sample, started}
use Rattle.rules.specs.Arrive.{arrives}
use Rattle.rules.specs.Behaviours.{operand, instruction, operand_in_range, in_range, has_clauses, targets_free, well_placed, code_sound}
use Rattle.rules.specs.Nodes.{unborn, live, closing, gone, sound, shaped, view_sound, view, behaviours_of, code, set_of, standing, running_sound, row_sound}
use Rattle.rules.specs.Receive.{receives, fits}
use Rattle.rules.specs.Run.{runs, runs_live, runs_op}
use Rattle.rules.specs.Steps.{run, arrive, play, played, step, rule, ready, commit, incoming, decide, numbered, owner_born, signal_waits, pair_has_room, number_free}
use Rattle.text.specs.Values.{number_text, value_text}
use Rattle.text.specs.Writing.{digits_in, digits, int_text, number_line, each}
use Rattle.listing_lines.specs.Lines.{value_line, each_from, members, with_commas, set_line, set_lines, register_line}
use Rattle.listing_lines.specs.Lines.{sender_line, message_line, standing_lines, standing_text, signal_line, flight_line, pair_text}
use Rattle.listing.specs.Listing.{rows_text, listing_text, listing_of}

-- after run=1 three times, arrive=2,1, run=2
pub sample_listing :
    listing_of (play started (run 1 ∷ run 1 ∷ run 1 ∷ arrive 2 1 ∷ run 2 ∷ [])).node
    ≡
    bytes "process=1\nstage=live\nbehaviour=1\nplace=3\nr0=p2\nr1=i12\nr2=i0\nr3=i0\ntrap=0\nlinks=\nwatches=\nwatchers=\nmail=0\n"
    ++ bytes "process=2\nstage=live\nbehaviour=2\nplace=2\nr0=i12\nr1=i0\nr2=i0\nr3=i0\ntrap=0\nlinks=\nwatches=\nwatchers=\nmail=0\n"
unfolding listing_of number_line value_line each_from members with_commas set_line set_lines register_line sender_line message_line standing_lines standing_text signal_line flight_line pair_text rows_text listing_text each value_text number_text int_text digits digits_in started sample op_of play played step rule ready commit incoming decide numbered owner_born signal_waits pair_has_room number_free sound shaped view_sound view behaviours_of code set_of has bits_of standing running_sound row_sound receives fits runs runs_live runs_op arrives operand instruction operand_in_range in_range has_clauses targets_free well_placed code_sound is_number fits_int messages changed joined left popped signals oldest register with_register moved advanced links_to kinds_of
sample_listing = refl

-- closing, gone and live processes, a note and a down, sets with and without a comma, and signals of every kind
pub other_listing :
    listing_text (record {
      behaviours = [];
      processes =
          unborn ∷ unborn ∷ closing killed (leb 15) (eqb 2) ∷ gone ∷ replicate 11 unborn
          ++ (live (record {
            behaviour = 8;
            place = 32;
            registers = Int (negsuc 2147483647) ∷ Atom 255 ∷ pid 16 ∷ int_zero ∷ [];
            trap = true;
            links = eqb 7;
            watches = leb 16;
            watchers = eqb 1;
            mail = Plain (Int (pos 5)) ∷ Note (record { 0 = 3 }) (Atom 9) ∷ DownMessage (record { 0 = 3 }) (Atom 5) ∷ [];
          }) ∷ []);
      flight =
          ([] ∷ (Msg (Int (pos 12)) ∷ Exit normal true ∷ Link ∷ Unlink ∷ []) ∷ [])
          ∷ ((Exit (pid 1) false ∷ Monitor ∷ Demonitor ∷ Down noproc ∷ []) ∷ [])
          ∷ [];
    })
    ≡
    bytes "process=3\nstage=closing\nreason=a2\nlinks=15,16\nwatchers=2\n"
    ++ bytes "process=4\nstage=gone\n"
    ++ bytes "process=16\nstage=live\nbehaviour=8\nplace=32\nr0=i-2147483648\nr1=a255\nr2=p16\nr3=i0\ntrap=1\nlinks=7\nwatches=16\nwatchers=1\nmail=3\nmessage=i5\nnote=p3,a9\ndown=p3,a5\n"
    ++ bytes "flight=1,2,4\nsignal=msg,i12\nsignal=exit,a0,1\nsignal=link\nsignal=unlink\n"
    ++ bytes "flight=2,1,4\nsignal=exit,p1,0\nsignal=monitor\nsignal=demonitor\nsignal=down,a5\n"
unfolding number_line value_line each_from members with_commas set_line set_lines register_line sender_line message_line standing_lines standing_text signal_line flight_line pair_text rows_text listing_text each value_text number_text int_text digits digits_in
other_listing = refl
