-- The claims of one sample, put together.
-- Assumes nothing.
use mir.Val.{SFits}
use mir.Syntax.{w8}
use Rattle.w83782d_layout.specs.declared.samples.Sample.{Sample}
use Rattle.w83782d_bus.specs.Bus.{State}
use Rattle.w83782d_claims.specs.BusClaims.{Whole}
use Rattle.w83782d_claims.specs.SampleClaims.{SampleClaims}
use Rattle.w83782d_claims.proofs.sample.Stores.{frame}
use Rattle.w83782d_claims.proofs.sample.Answers.{refused}
use Rattle.w83782d_claims.proofs.sample.Conditions.{fits_byte, stores, fan_rings_law}
use Rattle.w83782d_claims.proofs.sample.Conditions.{real_time_law, status_or_law, latches_after_law}
use Rattle.w83782d_claims.proofs.sample.Crossings.{crossings}
use Rattle.w83782d_claims.proofs.sample.Smi.{smi_exactly_law, standby}
use Rattle.w83782d_claims.proofs.sample.Stored.{stored_only_law}
use Rattle.w83782d_claims.proofs.sample.Reading.{read_alike}

pub sample_claims : (s : State) (x : Sample) → Whole s → SFits w8 x.sensor1 → SampleClaims s x
sample_claims s x w f =
    let fits = fits_byte x f in
    record {
      refused = refused s x;
      frame = frame s x;
      stores = λ a. stores s x w.count a fits;
      fan_rings = fan_rings_law s x w.count;
      real_time = λ a. real_time_law s x w.count w.bytes a fits;
      status_or = λ a. status_or_law s x w.count w.bytes a fits;
      crossings = crossings s x w.count;
      latches_after = λ a. latches_after_law s x w.count w.bytes a fits;
      smi_exactly = smi_exactly_law s w;
      standby = standby s w;
      stored_only = λ t v a. stored_only_law s t x w v a (read_alike s t w v a);
    }
