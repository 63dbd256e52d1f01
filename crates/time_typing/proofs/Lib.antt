mod Checked
mod Words
