-- What a session that replays comes to.
use Rattle.std.proofs.Common.{◌≡◌, ℕ, ◌≤◌, inl, inr, List, Option, refl, subst, arith}
use Rattle.cc_model.specs.CheckedProgram.{core_of}
use Rattle.cc_model.specs.Core.{Program}
use Rattle.cc_model.specs.Source.{IsProgram}
use Rattle.cc_outside.specs.Faults.{Rose}
use Rattle.cc_outside.specs.Held.{Held}
use Rattle.replay.specs.declared.tests_file.Tests.{Tests}
use Rattle.replay.specs.Files.{IsTestsFile, IsRefusedAt}
use Rattle.concolic_cli.specs.declared.prepared.Compiled.{Compiled}
use Rattle.concolic_cli.specs.declared.refusal.Refusal.{Refusal}
use Rattle.concolic_cli.specs.declared.refusal.FileWord.TheVariants as word
use Rattle.concolic_cli.specs.declared.refusal.Refusal.TheVariants as refused
use Rattle.concolic_cli.specs.declared.refusal.Unread.TheVariants as unread
use Rattle.concolic_cli.specs.Compiling.{IsCompiled}
use Rattle.concolic_cli.specs.Loaded.{ReadAs, ReadTests}
use Rattle.concolic_cli.specs.Replaying.{TextRefused, WroteReplay, WroteReplayPart, ReplayCause}
use Rattle.concolic_cli.specs.Session.{Seen, Cause, TestsCause, Wrote, WroteFirst, nothing, part}
use Rattle.concolic_cli.specs.Tasks.{replay}
use Rattle.concolic_cli.proofs.Causes.{program_of}

abbrev pub seen_at : Option Held → ℕ → ℕ → Option (List ℕ) → Option (List ℕ) → ℕ → ℕ → Seen
seen_at held a b old new m n = record { held = held; files_old = a; files_new = b; out_old = old; out_new = new; faults_old = m; faults_new = n }

-- faults that rose later rose since the start
rose_since : (a b c : ℕ) → c ≤ a → Rose a b → Rose c b
rose_since a b c le (inl h) = inl (omega (arith, le, h))
rose_since a b c le (inr h) = inr h

since : (p : Program) (held : Option Held) (a b c : ℕ) (tests : List ℕ) (e : Refusal) → c ≤ a → TestsCause p held a b tests e → TestsCause p held c b tests e
since p held a b c tests (refused.File word.Tests unread.Missing) le h = h
since p held a b c tests (refused.File word.Tests unread.TooLong) le h = h
since p held a b c tests (refused.File word.Tests unread.Failed) le h = rose_since a b c le h
since p held a b c tests (refused.File word.Source f) le h = absurd h
since p held a b c tests (refused.Tests line) le h = h
since p held a b c tests refused.NoMemory le h = tt
since p held a b c tests (refused.BadWord n) le h = absurd h
since p held a b c tests (refused.Source line w) le h = absurd h
since p held a b c tests refused.NoEntry le h = absurd h
since p held a b c tests (refused.Map f) le h = absurd h
since p held a b c tests refused.OutputFailed le h = absurd h

-- the text of the tests file is refused
of_text : (p : Program) (held : Option Held) (a b : ℕ) (tests text : List ℕ) (e : Refusal) → ReadTests held tests text → TextRefused p text e → TestsCause p held a b tests e
of_text p held a b tests text (refused.Tests line) read h = (text, read, h)
of_text p held a b tests text refused.NoMemory read h = tt
of_text p held a b tests text (refused.BadWord n) read h = absurd h
of_text p held a b tests text (refused.File w f) read h = absurd h
of_text p held a b tests text (refused.Source line w) read h = absurd h
of_text p held a b tests text refused.NoEntry read h = absurd h
of_text p held a b tests text (refused.Map f) read h = absurd h
of_text p held a b tests text refused.OutputFailed read h = absurd h

module _ (seen : Seen) (file entry tests bytes bytes' : List ℕ) (same : bytes' ≡ bytes) (read : ReadAs seen.held file bytes) (c : Compiled) (is : IsCompiled bytes' entry c) where
  source : IsProgram bytes entry (core_of c.checked)
  source = let i = subst (λ u. IsCompiled u entry c) same is in program_of bytes entry i.tokens c.checked i.reads

  refused_by : (e : Refusal) → TestsCause (core_of c.checked) seen.held seen.files_old seen.files_new tests e → seen.out_new ≡ seen.out_old → Cause seen (record { file = file; entry = entry; work = replay tests }) e
  refused_by (refused.File word.Tests f) h silent = record { tests = tests; named = refl; bytes = bytes; read = read; program = core_of c.checked; source = source; cause = h; silent = silent }
  refused_by (refused.Tests line) h silent = record { tests = tests; named = refl; bytes = bytes; read = read; program = core_of c.checked; source = source; cause = h; silent = silent }
  refused_by refused.NoMemory h silent = nothing silent
  refused_by (refused.BadWord n) h silent = absurd h
  refused_by (refused.File word.Source f) h silent = absurd h
  refused_by (refused.Source line w) h silent = absurd h
  refused_by refused.NoEntry h silent = absurd h
  refused_by (refused.Map f) h silent = absurd h
  refused_by refused.OutputFailed h silent = absurd h

  -- the tests file wasn't read
  pub file_refused : (held : Option Held) (a : ℕ) (e : Refusal) → held ≡ seen.held → seen.files_old ≤ a → ((p : Program) → TestsCause p held a seen.files_new tests e) → seen.out_new ≡ seen.out_old →
      Cause seen (record { file = file; entry = entry; work = replay tests }) e
  file_refused held a e was le h silent = refused_by e (since (core_of c.checked) seen.held a seen.files_new seen.files_old tests e le (subst (λ k. TestsCause (core_of c.checked) k a seen.files_new tests e) was (h (core_of c.checked)))) silent

  module _ (held : Option Held) (was : held ≡ seen.held) (text text' : List ℕ) (same_text : text' ≡ text) (holds : ReadTests held tests text) where
    holds_now : ReadTests seen.held tests text
    holds_now = subst (λ k. ReadTests k tests text) was holds

    -- its text was refused
    pub text_refused : (e : Refusal) → TextRefused (core_of c.checked) text' e → seen.out_new ≡ seen.out_old → Cause seen (record { file = file; entry = entry; work = replay tests }) e
    text_refused e h silent = refused_by e (of_text (core_of c.checked) seen.held seen.files_old seen.files_new tests text e holds_now (subst (λ u. TextRefused (core_of c.checked) u e) same_text h)) silent

    module _ (t : Tests) (whole : IsTestsFile (core_of c.checked) text' t.bounds t.tests t.lines) (unrefused : (n : ℕ) → IsRefusedAt (core_of c.checked) text' n → ⊥) where
      pub replay_written : (status : ℕ) → WroteReplay (core_of c.checked) t seen.out_old seen.out_new status → Wrote seen.held seen.out_old seen.out_new (record { file = file; entry = entry; work = replay tests }) status
      replay_written status w = record {
        bytes = bytes;
        text = w.text;
        read = read;
        report = record {
          program = core_of c.checked;
          source = source;
          file = text;
          read = holds_now;
          bounds = t.bounds;
          all = t.tests;
          lines = t.lines;
          holds = subst (λ u. IsTestsFile (core_of c.checked) u t.bounds t.tests t.lines) same_text whole;
          unrefused = subst (λ u. (n : ℕ) → IsRefusedAt (core_of c.checked) u n → ⊥) same_text unrefused;
          written = w.tells;
        };
        written = w.written;
      }

      begun : WroteReplayPart (core_of c.checked) t seen.out_old seen.out_new → WroteFirst seen.held seen.out_old seen.out_new (record { file = file; entry = entry; work = replay tests })
      begun w = record {
        bytes = bytes;
        text = w.text;
        read = read;
        may = (
          w.status,
          record {
            program = core_of c.checked;
            source = source;
            file = text;
            read = holds_now;
            bounds = t.bounds;
            all = t.tests;
            lines = t.lines;
            holds = subst (λ u. IsTestsFile (core_of c.checked) u t.bounds t.tests t.lines) same_text whole;
            unrefused = subst (λ u. (n : ℕ) → IsRefusedAt (core_of c.checked) u n → ⊥) same_text unrefused;
            written = w.tells;
          },
        );
        written = w.written;
      }

      pub write_refused : (e : Refusal) → ReplayCause (core_of c.checked) t seen.out_old seen.out_new seen.faults_old seen.faults_new e → Cause seen (record { file = file; entry = entry; work = replay tests }) e
      write_refused refused.OutputFailed h = (h.0, begun h.1)
      write_refused refused.NoMemory (inl silent) = nothing silent
      write_refused refused.NoMemory (inr w) = part (begun w)
      write_refused (refused.BadWord n) h = absurd h
      write_refused (refused.File w f) h = absurd h
      write_refused (refused.Source line w) h = absurd h
      write_refused refused.NoEntry h = absurd h
      write_refused (refused.Map f) h = absurd h
      write_refused (refused.Tests line) h = absurd h
