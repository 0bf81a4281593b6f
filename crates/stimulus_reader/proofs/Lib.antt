pub mod StimulusWords
pub mod StimulusParts
pub mod StimulusSettings
pub mod StimulusLines
pub mod StimulusBytes
pub mod StimulusValues
pub mod StimulusJudging
pub mod StimulusGiven
